-- What stays on the system page and on a page of a chain while other bytes are written.
use Rattle.std.specs.Prelude.{ℕ, ◌≡◌, ◌≤◌, ◌+◌, List, length}
use Rattle.clone_page.specs.Bytes.{field}
use Rattle.clone_page.specs.Header.{kind_of, IsAllowed, IsWellFormed}
use Rattle.clone_page.specs.Dictionary.{position_at}
use Rattle.clone_page.specs.declared.layout.TheConstants.{ENTRIES_AT}
use Rattle.clone_base.specs.declared.limits.TheConstants.{PAGE_SIZE}
use Rattle.clone_mtr.specs.Patches.{Patched}

-- bytes before the first entry are written, as the number of commits is
pub record WritesBefore (patch : Patched) : Type 0 where
  pub allowed : IsAllowed patch.offset (length patch.bytes)
  pub before : patch.offset + length patch.bytes ≤ ENTRIES_AT

-- a page of its kind in its place, which is whole and stays well formed
pub record Keeps (before after : List ℕ) : Type 0 where
  pub long : length after ≡ PAGE_SIZE
  pub kind : kind_of after ≡ kind_of before
  pub well_formed : (space number : ℕ) → IsWellFormed space number before
      → IsWellFormed space number after

-- the number of commits stays, too
pub record KeepsSystem (before after : List ℕ) : Type 0 where
  pub page : Keeps before after
  pub position : field position_at 8 after ≡ field position_at 8 before
