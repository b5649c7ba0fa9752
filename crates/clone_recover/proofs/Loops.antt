-- Loops of which each turn is one step of the disk.
use Rattle.std.proofs.Common.{◌≡◌, ◌<◌, ◌≤◌, ◌+◌, ℕ, zero, suc, List, [], ◌∷◌, length, drop, get_or, refl, sym, ap, ◌∙◌, arith, fold, Bool, true, false, cond, Some, None}
use Rattle.std.specs.Prelude.{option_map}
use Rattle.std.specs.declared.option.Option.{Option}
use Rattle.clone_outside.specs.Disk.{DiskImage}

module _ {A : Type 0} (step : DiskImage → A → DiskImage) where
  -- what is left makes of the disk now what all items make of it at first
  pub record Left (first now : Option DiskImage) (rest all : List A) : Type 0 where
    pub is : option_map (λ m. fold step m rest) now ≡ option_map (λ m. fold step m all) first

  pub left_begins : (first now : Option DiskImage) (all rest : List A) → now ≡ first → rest ≡ all → Left first now rest all
  left_begins first now all rest same is = record { is = λ i. option_map (λ m. fold step m (is i)) (same i) }

  twice : (o : Option DiskImage) (x : A) (rest : List A) → option_map (λ m. fold step m rest) (option_map (λ m. step m x) o) ≡ option_map (λ m. fold step m (x ∷ rest)) o
  twice None x rest = refl
  twice (Some m) x rest = refl

  pub left_goes_on : (first now next : Option DiskImage) (x : A) (left rest all : List A) → left ≡ x ∷ rest → next ≡ option_map (λ m. step m x) now → Left first now left all → Left first next rest all
  left_goes_on first now next x left rest all is steps l = record {
    is =
        ap (option_map (λ m. fold step m rest)) steps ∙ twice now x rest
        ∙ sym (ap (λ (xs : List A). option_map (λ m. fold step m xs) now) is) ∙ l.is;
  }

  kept : (o : Option DiskImage) → option_map (λ m. m) o ≡ o
  kept None = refl
  kept (Some m) = refl

  pub left_ends : (first now : Option DiskImage) (rest all : List A) → rest ≡ [] → Left first now rest all → now ≡ option_map (λ m. fold step m all) first
  left_ends first now rest all none l = sym (kept now) ∙ sym (ap (λ (xs : List A). option_map (λ m. fold step m xs) now) none) ∙ l.is

-- the item of a turn, and those behind it
pub drop_at : {A : Type 0} (i : ℕ) (xs : List A) (x : A) → i < length xs → drop i xs ≡ get_or xs i x ∷ drop (i + 1) xs
drop_at i xs x lt = let e : suc i ≡ i + 1 = omega arith in front i xs x lt ∙ ap (λ (n : ℕ). get_or xs i x ∷ drop n xs) e
  where
    front : {A : Type 0} (n : ℕ) (ys : List A) (y : A) → n < length ys → drop n ys ≡ get_or ys n y ∷ drop (suc n) ys
    front n [] y low = absurd (omega (arith, low))
    front zero (z ∷ zs) y low = refl
    front (suc n) (z ∷ zs) y low = front n zs y (omega (arith, low))

pub drop_done : {A : Type 0} (i : ℕ) (xs : List A) → length xs ≤ i → drop i xs ≡ []
drop_done zero [] le = refl
drop_done (suc i) [] le = refl
drop_done zero (x ∷ xs) le = absurd (omega (arith, le))
drop_done (suc i) (x ∷ xs) le = drop_done i xs (omega (arith, le))

-- a step that is made, or that changes nothing
pub not_made : (told now : Option DiskImage) (b : Bool) (step : DiskImage → DiskImage) → now ≡ told → b ≡ false → now ≡ option_map (λ m. cond b (step m) m) told
not_made told now b step same is = same ∙ still told ∙ ap (λ (c : Bool). option_map (λ m. cond c (step m) m) told) (sym is)
  where
    still : (o : Option DiskImage) → o ≡ option_map (λ m. m) o
    still None = refl
    still (Some m) = refl

pub is_made : (told now : Option DiskImage) (b : Bool) (step : DiskImage → DiskImage) → now ≡ option_map step told → b ≡ true → now ≡ option_map (λ m. cond b (step m) m) told
is_made told now b step made is = made ∙ ap (λ (c : Bool). option_map (λ m. cond c (step m) m) told) (sym is)
