-- A run as the calls of several seats, taken one at a time.
use Rattle.std.specs.Prelude.{ℕ, ◌≡◌, List, [], ◌∷◌, Some, slice_get, set}
use Rattle.std.specs.List.{AllByRecursion}

module _ {X : Type 0} where
  -- THE LIST IS SHUFFLED FROM THE PARTS: each element in turn is the first of what is left of one
  -- of them, and after the last one nothing is left of any.
  abbrev pub IsShuffled : List (List X) → List X → Type 0
  IsShuffled parts [] = AllByRecursion (λ part. part ≡ []) parts
  IsShuffled parts (x ∷ xs) =
      (i : ℕ) × (rest : List X) × (slice_get parts i ≡ Some (x ∷ rest))
      × IsShuffled (set parts i rest) xs
