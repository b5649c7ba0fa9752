-- The place of a change, once it is found, and once all its pages are held.
use Rattle.std.specs.Prelude.{ℕ, ◌≡◌, ◌≤◌, ◌==◌, Bool, List, length, IsTrue}
use Rattle.clone_model.specs.declared.change.Change.{Change}
use Rattle.clone_undo.specs.Entries.{UndoEntry}
use Rattle.clone_undo.specs.Places.{header_page, record_page}
use Rattle.clone_contents.specs.Steps.{is_unused}
use Rattle.clone_buffer.specs.Buffered.{Buffered, image_of}
use Rattle.clone_plain.specs.Donor.{Donor}
use Rattle.clone_trx.specs.Calls.{change_way, row_page, system_page, told_way}
use Rattle.clone_trx.specs.Holding.{Call, HasCome}
use Rattle.clone_trx.specs.Kept.{IsHeld, IsTargetFor}

-- the call that makes a change
abbrev pub change_call : Donor → ℕ → Change → Buffered → Call
change_call d trx change first =
    record { donor = d; way = change_way d trx change; first = first }

-- A change has come to its place, whose page is held. It is left to read the undo pages and to
-- write.
pub record IsPlaced (d : Donor) (trx : ℕ) (change : Change) (first : Buffered) (held : List ℕ)
    (b : Buffered) (entry : UndoEntry) (new : Bool) (made : ℕ) : Type 0 where
  pub comes : HasCome (change_call d trx change first) held (told_way trx change made new entry) b
  pub few : length held ≤ 3
  pub target : IsTargetFor d trx change b entry new made
  pub row : IsHeld (row_page entry) b.pool.frames

-- All pages of a change are held. The records are written from the first on, which makes the page
-- of the undo record, where that page was never used, and else from the second on.
pub record IsReady (d : Donor) (trx : ℕ) (change : Change) (b : Buffered) (entry : UndoEntry)
    (new : Bool) (made from : ℕ) : Type 0 where
  pub target : IsTargetFor d trx change b entry new made
  pub from_low : from ≤ 1
  pub from_is : IsTrue b.right
      → (from == 0) ≡ is_unused (image_of b) 0 (record_page trx made)
  pub row : IsHeld (row_page entry) b.pool.frames
  pub header : IsHeld (system_page (header_page trx)) b.pool.frames
  pub undo : IsHeld (system_page (record_page trx made)) b.pool.frames
