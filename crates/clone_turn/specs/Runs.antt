-- Runs of a machine, and the part of a run that a seat has seen.
use Rattle.std.specs.Prelude.{◌≡◌, ◌<◌, ◌+◌, Bool, false, cond, ◌||◌, List, [], ◌∷◌}
use Rattle.clone_turn.specs.declared.view.Entry.{Entry}

module _ {S C A : Type 0} where
  -- the state after the entries
  abbrev pub end_of : S → List (Entry S C A) → S
  end_of first [] = first
  end_of first (e ∷ es) = end_of e.after es

  -- each entry is a step of the machine, from the state that the entry before it left
  abbrev pub IsLegalRun : (S → C → A → S → Type 0) → S → List (Entry S C A) → Type 0
  IsLegalRun steps first [] = Unit {0}
  IsLegalRun steps first (e ∷ es) =
      steps first e.call e.answer e.after × IsLegalRun steps e.after es

  -- of what a seat has seen, each entry with whether it is the seat's own: the entries
  abbrev pub entries : List (Entry S C A × Bool) → List (Entry S C A)
  entries [] = []
  entries (x ∷ xs) = x.0 ∷ entries xs

  -- the entries that are the seat's own
  abbrev pub calls : List (Entry S C A × Bool) → List (Entry S C A)
  calls [] = []
  calls (x ∷ xs) = cond x.1 (x.0 ∷ calls xs) (calls xs)

  -- entries of other seats
  abbrev pub others : List (Entry S C A) → List (Entry S C A × Bool)
  others [] = []
  others (e ∷ es) = (e, false) ∷ others es

  -- what two seats have seen, laid over each other: the longer of the two, with the calls of both
  abbrev pub meld : List (Entry S C A × Bool) → List (Entry S C A × Bool)
      → List (Entry S C A × Bool)
  meld [] ys = ys
  meld (x ∷ xs) [] = x ∷ xs
  meld (x ∷ xs) (y ∷ ys) = (x.0, x.1 || y.1) ∷ meld xs ys

  -- where both have seen an entry it is one entry, and at most one of the two made it
  abbrev pub Agree : List (Entry S C A × Bool) → List (Entry S C A × Bool) → Type 0
  Agree [] ys = Unit {0}
  Agree (x ∷ xs) [] = Unit {0}
  Agree (x ∷ xs) (y ∷ ys) = (x.0 ≡ y.0) × (cond x.1 1 0 + cond y.1 1 0 < 2) × Agree xs ys
