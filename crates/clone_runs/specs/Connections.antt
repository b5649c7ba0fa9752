-- The connections of one task, as the task made them and as they were served.
use Rattle.std.specs.Prelude.{ℕ, ◌≡◌, ◌⊎◌, List, [], ◌∷◌, flat_map, ⊤}
use Rattle.std.specs.List.{AllByRecursion}
use Rattle.clone_runs.specs.Ends.{AreEnds, Passed}

module _ {C X : Type 0} where
  abbrev pub place_of : Passed C X → ℕ
  place_of end = end.place

  -- all that passed, connection by connection
  abbrev pub commands_of : List (Passed C X) → List C
  commands_of ends = flat_map (λ (end : Passed C X). end.commands) ends

  abbrev pub answers_of : List (Passed C X) → List X
  answers_of ends = flat_map (λ (end : Passed C X). end.answers) ends

  -- a donor's end is the other end of one that the task made
  abbrev pub IsOneOf : List (Passed C X) → Passed C X → Type 0
  IsOneOf [] donor = ⊥
  IsOneOf (task ∷ made) donor = AreEnds donor task ⊎ IsOneOf made donor

  abbrev pub AreOf : List (Passed C X) → List (Passed C X) → Type 0
  AreOf served made = AllByRecursion (IsOneOf made) served

  -- the same, and they were served in the order in which the task made them
  abbrev pub AreInOrder : List (Passed C X) → List (Passed C X) → Type 0
  AreInOrder [] made = ⊤
  AreInOrder (donor ∷ served) [] = ⊥
  AreInOrder (donor ∷ served) (task ∷ made) =
      (AreEnds donor task × AreInOrder served made) ⊎ AreInOrder (donor ∷ served) made

  -- an end at which answers came was served at the other
  abbrev pub WasServed : List (Passed C X) → Passed C X → Type 0
  WasServed [] task = task.answers ≡ []
  WasServed (donor ∷ served) task = AreEnds donor task ⊎ WasServed served task

  -- THE ENDS ARE MATCHED as they come: each donor's end with that at the other side. From a
  -- connection that nobody served no answer was taken.
  abbrev pub AreMatched : List (Passed C X) → List (Passed C X) → Type 0
  AreMatched [] [] = ⊤
  AreMatched (donor ∷ served) [] = ⊥
  AreMatched [] (task ∷ made) = (task.answers ≡ []) × AreMatched [] made
  AreMatched (donor ∷ served) (task ∷ made) =
      (AreEnds donor task × AreMatched served made)
      ⊎ ((task.answers ≡ []) × AreMatched (donor ∷ served) made)
