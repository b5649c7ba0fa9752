-- A disk is empty, or isn't.
use Rattle.std.proofs.Common.{◌≡◌, ◌==◌, ◌∙◌, ℕ, length, List, Option, None, Some, is_some, true, false, refl, sym, ap, subst, inl, eq-eqb, eqb-true}
use Rattle.std.specs.FinMap as finite
use Rattle.std.specs.Ordering.{nat_cmp}
use Rattle.std.proofs.lemmas.Bool.{true≢false}
use Rattle.std.proofs.lemmas.List.{length-map}
use Rattle.std.specs.Prelude.{option_map}
use Rattle.clone_outside.specs.Disk.{DiskImage, ForTold, Steps, blank, space_numbers}
use Rattle.clone_outside.specs.declared.mark.Mark.{Mark}
use Rattle.clone_lay.specs.Marked.{marked}
use Rattle.clone_lay.specs.Sized.{AreSizes}
use Rattle.clone_lay.proofs.SizeLemmas.{no_sizes}
use Rattle.clone_outside.specs.declared.disk.Held.{Held}
use Rattle.clone_recipient.specs.Receptions.{IsNotEmpty}

count_spaces : (m : DiskImage) → length (space_numbers m) ≡ finite.len m.spaces
count_spaces m = length-map (finite.entries m.spaces) (λ (e : ℕ × List Held). e.0) ∙ sym (finite.len-entries m.spaces)

pub some_space : (told : Option DiskImage) (spaces : List ℕ) → (length spaces == 0) ≡ false → ForTold told (λ m. spaces ≡ space_numbers m) → ForTold told IsNotEmpty
some_space None spaces some all = tt
some_space (Some m) spaces some all = inl (λ no_write.
    let zero : length spaces ≡ 0 = ap length all ∙ count_spaces m ∙ ap finite.len no_write ∙ finite.len-empty nat_cmp (List Held) in
    true≢false (sym (eq-eqb (length spaces) 0 zero) ∙ some))

pub is_blank : (told : Option DiskImage) (spaces : List ℕ) (mark : Option (List ℕ)) → (length spaces == 0) ≡ true → is_some mark ≡ false → ForTold told (λ m. spaces ≡ space_numbers m) → ForTold told (λ m. mark ≡ m.mark) → ForTold told (λ m. m ≡ blank)
is_blank None spaces mark no_write unmarked all marked = tt
is_blank (Some m) spaces mark no_write unmarked all marked =
    let zero : finite.len m.spaces ≡ 0 = sym (ap length all ∙ count_spaces m) ∙ eqb-true (length spaces) 0 no_write in
    λ i. record { spaces = finite.empty_of_len m.spaces zero i; mark = (sym marked ∙ no_mark mark unmarked) i }
  where
    no_mark : (o : Option (List ℕ)) → is_some o ≡ false → o ≡ None
    no_mark None is = refl
    no_mark (Some x) is = absurd (true≢false is)

-- a blank disk that got its mark has no sizes
pub begun_sizes : (told mid now : Option DiskImage) (mark : Mark) → ForTold told (λ m. m ≡ blank) → mid ≡ told → Steps mid now (marked mark) → ForTold now (AreSizes finite.empty)
begun_sizes told mid now mark empty same steps = subst (λ (o : Option DiskImage). ForTold o (AreSizes finite.empty)) (sym (steps ∙ ap (option_map (marked mark)) same)) (by told empty)
  where
    by : (o : Option DiskImage) → ForTold o (λ m. m ≡ blank) → ForTold (option_map (marked mark) o) (AreSizes finite.empty)
    by None empty = tt
    by (Some m) empty = no_sizes (marked mark m) (ap (λ (x : DiskImage). x.spaces) empty)
