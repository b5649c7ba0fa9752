-- A list in which one element has what is asked.
use Rattle.std.proofs.Common.{◌⊎◌, inl, inr, List, [], ◌∷◌}
use Rattle.std.specs.List.{AllByRecursion}

module _ {A : Type 0} where
  -- one of them has it
  abbrev pub Has : (A → Type 0) → List A → Type 0
  Has P [] = ⊥
  Has P (x ∷ xs) = P x ⊎ Has P xs

module _ {A : Type 0} (P Q : A → Type 0) where
  pub has_to : ((x : A) → P x → Q x) → (xs : List A) → Has P xs → Has Q xs
  has_to f [] has = absurd has
  has_to f (x ∷ xs) (inl it) = inl (f x it)
  has_to f (x ∷ xs) (inr has) = inr (has_to f xs has)

  -- what each has, that one has too
  pub has_both : (xs : List A) → AllByRecursion P xs → Has Q xs → Has (λ x. P x × Q x) xs
  has_both [] each has = absurd has
  has_both (x ∷ xs) each (inl it) = inl (each.0, it)
  has_both (x ∷ xs) each (inr has) = inr (has_both xs each.1 has)

module _ {A : Type 0} (P : A → Type 0) where
  pub has_one : (xs : List A) → Has P xs → (x : A) × P x
  has_one [] has = absurd has
  has_one (x ∷ xs) (inl it) = (x, it)
  has_one (x ∷ xs) (inr has) = has_one xs has
