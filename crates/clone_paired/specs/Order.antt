-- THE ORDER of what a donor's session copies, and how much that is.
use Rattle.std.specs.Prelude.{ℕ, ◌≤◌, ◌+◌, List, [], ◌∷◌, length, IfSome, ⊤}
use Rattle.std.specs.declared.option.Option.{Option}
use Rattle.clone_model.specs.declared.line.TheConstants.{MOST_PAGES}
use Rattle.clone_snapshot.specs.StageLists.{StageList, Files, Nothing, Pages, Redo}
use Rattle.clone_session.specs.Cloning.{Session}
use Rattle.clone_recipient.specs.declared.limits.TheConstants.{MOST_COPIED, MOST_SPACE}
use Rattle.clone_paired.specs.Blocks.{AscendFrom}

-- spaces ascend from this number on, each with a number that a recipient knows, and with 1 page to
-- as many as a space may have
abbrev pub SpacesAscend : ℕ → List (ℕ × ℕ) → Type 0
SpacesAscend least [] = ⊤
SpacesAscend least (space ∷ spaces) =
    (least ≤ space.0) × (space.0 ≤ MOST_SPACE) × (1 ≤ space.1) × (space.1 ≤ MOST_PAGES)
    × SpacesAscend (space.0 + 1) spaces

-- The files that a stage copies ascend; or its pages do, no more of them than a recipient takes,
-- and the spaces that were created meanwhile.
abbrev pub IsInOrder : List (ℕ × ℕ) → StageList → Type 0
IsInOrder created (Files spaces) = SpacesAscend 0 spaces
IsInOrder created (Pages pages) =
    AscendFrom 0 pages × (length pages ≤ MOST_COPIED) × SpacesAscend 0 created
IsInOrder created (Redo start end) = ⊤
IsInOrder created Nothing = ⊤

-- SO A SESSION COPIES, where one stands.
abbrev pub CopiesInOrder : Option Session → Type 0
CopiesInOrder session = IfSome session (λ s. IsInOrder s.created s.snap.list)
