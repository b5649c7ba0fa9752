-- Bytes that are there or not, one after the other.
use Rattle.std.proofs.Common.{◌≡◌, ◌∙◌, ◌-◌, List, [], ◌∷◌, ◌++◌, length, take, drop, flat_map, refl, sym, ap, arith}
use Rattle.std.specs.List.{AllByRecursion}
use Rattle.std.proofs.Math.Seq.{drop-append_seam, take-append_seam}
use Rattle.std.proofs.lemmas.Grind.{flat_map-append}
use Rattle.std.proofs.lemmas.List.{append-nil, length-append}
use Rattle.clone_runs.specs.Spellings.{spellings}
use Rattle.clone_reading.specs.Reading.{Bytes, as_they_are, if_any}

-- ---- at the front of others, and behind them

pub in_front : (xs ys zs : Bytes) → zs ≡ xs ++ ys → take (length zs - length ys) zs ≡ xs
in_front xs ys zs is =
    let n : length zs - length ys ≡ length xs = (let l = length-append xs ys in let m = ap length is in omega (arith, l, m)) in
    ap (λ k. take k zs) n ∙ (ap (take (length xs)) is ∙ take-append_seam xs ys)

pub none_in_front : (ys zs : Bytes) → ys ≡ zs → take (length zs - length ys) zs ≡ []
none_in_front ys zs same = in_front [] ys zs (sym same)

pub behind : (xs ys zs : Bytes) → zs ≡ xs ++ ys → drop (length xs) zs ≡ ys
behind xs ys zs is = ap (drop (length xs)) is ∙ drop-append_seam xs ys

pub none_behind : (xs zs : Bytes) → zs ≡ xs → drop (length xs) zs ≡ []
none_behind xs zs same = behind xs [] zs (same ∙ sym (append-nil xs))

-- ---- as a list of one or none

pub any_each : (P : Bytes → Type 0) (bytes : Bytes) → P bytes → AllByRecursion P (if_any bytes)
any_each P [] is = tt
any_each P (byte ∷ bytes) is = (is, tt)

none_any : (bytes : Bytes) → bytes ≡ [] → if_any bytes ≡ []
none_any [] none = refl
none_any (byte ∷ bytes) none = absurd cc

any_spellings : (bytes : Bytes) → spellings as_they_are (if_any bytes) ≡ bytes
any_spellings [] = refl
any_spellings (byte ∷ bytes) = append-nil (byte ∷ bytes)

front_none : (xs ys : Bytes) → xs ++ ys ≡ [] → xs ≡ []
front_none [] ys none = refl
front_none (x ∷ xs) ys none = absurd cc

rest_none : (xs ys : Bytes) → xs ++ ys ≡ [] → ys ≡ []
rest_none [] ys none = none
rest_none (x ∷ xs) ys none = absurd cc

module _ {E : Type 0} (f : E → Bytes) where
  -- of each element
  abbrev pub pieces : List E → List Bytes
  pieces es = flat_map (λ (e : E). if_any (f e)) es

  pub piece_spellings : (es : List E) → spellings as_they_are (pieces es) ≡ flat_map f es
  piece_spellings [] = refl
  piece_spellings (e ∷ es) =
      flat_map-append as_they_are (if_any (f e)) (pieces es)
      ∙ (ap (λ (bytes : Bytes). bytes ++ spellings as_they_are (pieces es)) (any_spellings (f e)) ∙ ap (λ (bytes : Bytes). f e ++ bytes) (piece_spellings es))

  pub pieces_none : (es : List E) → flat_map f es ≡ [] → pieces es ≡ []
  pieces_none [] none = refl
  pieces_none (e ∷ es) none =
      ap (λ (ps : List Bytes). ps ++ pieces es) (none_any (f e) (front_none (f e) (flat_map f es) none)) ∙ pieces_none es (rest_none (f e) (flat_map f es) none)
