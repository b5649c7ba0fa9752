-- Lists in which nothing of one kind comes after anything of another, and lists that ascend.
use Rattle.std.specs.Prelude.{ℕ, ◌≡◌, ◌<◌, Bool, true, false, ◌||◌, List, [], ◌∷◌, ⊤}
use Rattle.std.specs.List.{AllByRecursion}

module _ {X : Type 0} where
  -- none passes the test
  abbrev pub NoneIn : (X → Bool) → List X → Type 0
  NoneIn test xs = AllByRecursion (λ x. test x ≡ false) xs

  -- none that opens comes after one that leaves
  abbrev pub NoneAfter : (opens leaves : X → Bool) → List X → Type 0
  NoneAfter opens leaves [] = ⊤
  NoneAfter opens leaves (x ∷ xs) =
      (leaves x ≡ true → NoneIn opens xs) × NoneAfter opens leaves xs

  abbrev pub either : (X → Bool) → (X → Bool) → X → Bool
  either opens leaves x = opens x || leaves x

  -- each number is above those before it
  abbrev pub Ascends : (X → ℕ) → List X → Type 0
  Ascends f [] = ⊤
  Ascends f (x ∷ xs) = AllByRecursion (λ y. f x < f y) xs × Ascends f xs
