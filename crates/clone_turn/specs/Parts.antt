-- Lists within a list.
use Rattle.std.specs.Prelude.{◌≡◌, ◌⊎◌, List, [], ◌∷◌, IsPermutation, flat_map, ⊤}
use Rattle.std.specs.List.{AllByRecursion}

module _ {X : Type 0} where
  -- all of the one stands in the other, in its order
  abbrev pub IsSublist : List X → List X → Type 0
  IsSublist [] ys = ⊤
  IsSublist (x ∷ xs) [] = ⊥
  IsSublist (x ∷ xs) (y ∷ ys) = ((x ≡ y) × IsSublist xs ys) ⊎ IsSublist (x ∷ xs) ys

  -- one part after the other
  abbrev pub all_of : List (List X) → List X
  all_of parts = flat_map (λ part. part) parts

  -- THE LIST IS MADE OF THE PARTS: it has the elements of all of them, each once, and those of each
  -- part in their order.
  pub record IsMadeOf (parts : List (List X)) (xs : List X) : Type 0 where
    pub once : IsPermutation (all_of parts) xs
    pub order : AllByRecursion (λ part. IsSublist part xs) parts
