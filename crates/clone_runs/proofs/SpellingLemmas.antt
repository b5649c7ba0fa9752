-- Frames are told apart by their bytes, so bytes that begin others have the first of their frames.
use Rattle.std.proofs.Common.{ℕ, ◌≡◌, ◌<◌, List, [], ◌∷◌, ◌++◌, length, refl, sym, ap, ◌∙◌, subst, append_assoc, arith}
use Rattle.std.specs.List.{AllByRecursion}
use Rattle.std.proofs.lemmas.List.{length-append}
use mathlib.Core.List.{IsPrefix}
use Rattle.clone_turn.proofs.EachLemmas.{each_map}
use Rattle.clone_runs.specs.Spellings.{AreToldFrom, IsToldFrom, spellings}

tail_of : {X : Type 0} → List X → List X
tail_of [] = []
tail_of (x ∷ xs) = xs

without : {X : Type 0} (xs ys zs : List X) → xs ++ ys ≡ xs ++ zs → ys ≡ zs
unfolding tail_of
without [] ys zs e = e
without (x ∷ xs) ys zs e = without xs ys zs (ap (λ l. tail_of l) e)

module _ {X : Type 0} (spelled : X → List ℕ) where
  -- of a list that begins with one more
  abbrev Told : List X → X → Type 0
  Told ys x = (0 < length (spelled x)) × AllByRecursion (IsToldFrom spelled x) ys

  fewer : (y : X) (xs ys : List X) → AreToldFrom spelled xs (y ∷ ys) → AreToldFrom spelled xs ys
  fewer y xs ys told = each_map (Told (y ∷ ys)) (Told ys) (λ x it. (it.0, it.1.1)) xs told

  fronts : (got put : List X) (rest : List ℕ) → AreToldFrom spelled got put → spellings spelled got ++ rest ≡ spellings spelled put → IsPrefix got put
  fronts [] put rest told e = (put, refl)
  fronts (g ∷ gs) [] rest told e =
      absurd (let a = ap length e in let b = length-append (spelled g ++ spellings spelled gs) rest in let c = length-append (spelled g) (spellings spelled gs) in omega (arith, told.0.0))
  fronts (g ∷ gs) (p ∷ ps) rest told e =
      let all : spelled g ++ (spellings spelled gs ++ rest) ≡ spelled p ++ spellings spelled ps = sym (append_assoc (spelled g) (spellings spelled gs) rest) ∙ e in
      let same : g ≡ p = told.0.1.0 _ _ all in
      let more = fronts gs ps rest (fewer p gs ps told.1) (without (spelled p) _ _ (subst (λ c. spelled c ++ (spellings spelled gs ++ rest) ≡ spelled p ++ spellings spelled ps) same all)) in
      (more.0, ap (λ c. c ∷ (gs ++ more.0)) same ∙ ap (λ cs. p ∷ cs) more.1)

  pub front : (got put : List X) (mine its : List ℕ) → AreToldFrom spelled got put → IsPrefix (spellings spelled got) mine → IsPrefix mine its → IsPrefix its (spellings spelled put) → IsPrefix got put
  front got put mine its told a b c =
      let whole : spellings spelled got ++ (a.0 ++ (b.0 ++ c.0)) ≡ spellings spelled put =
      sym (append_assoc (spellings spelled got) a.0 (b.0 ++ c.0)) ∙ (ap (λ xs. xs ++ (b.0 ++ c.0)) a.1 ∙ (sym (append_assoc mine b.0 c.0) ∙ (ap (λ xs. xs ++ c.0) b.1 ∙ c.1))) in
      fronts got put (a.0 ++ (b.0 ++ c.0)) told whole
