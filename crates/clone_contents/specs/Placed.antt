-- Pages that may stand at their place.
use Rattle.std.specs.Prelude.{ℕ, ◌≡◌, ◌⊎◌, List, ◌++◌}
use Rattle.clone_page.specs.Header.{zero_page, IsWellFormed}
use Rattle.clone_mtr.specs.declared.record.Record.{Record}
use Rattle.clone_image.specs.Redone.{Standing, no_space, past_end, stands, redone}

-- the page isn't there, is zero, or is well formed at its place
abbrev pub IsPlaced : ℕ → ℕ → Standing → Type 0
IsPlaced space number no_space = Unit {0}
IsPlaced space number past_end = Unit {0}
IsPlaced space number (stands page) = (page ≡ zero_page) ⊎ IsWellFormed space number page

-- so it was at each moment of the log
abbrev pub WasPlaced : ℕ → ℕ → List (List Record) → Type 0
WasPlaced space number log =
    (front rest : List (List Record)) → log ≡ front ++ rest
    → IsPlaced space number (redone space number front)
