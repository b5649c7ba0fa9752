-- The pages that the records of each call name: they have frames, are there, and are edited alone.
use Rattle.std.specs.List.{AllByRecursion}
use Rattle.clone_undo.specs.Places.{header_page, record_page}
use Rattle.clone_trx.proofs.Common.{ℕ, Bool, true, false, List, ap, IsSome, is_some, Frame, PageName, holder, HasFrame, IsOnPage, EditsPages, Image, page_of, UndoEntry, records_of_begin, records_of_change, records_of_taking_back, commit_records, IsHeld}

-- a page that is held has a frame
pub held_frame : (frames : List Frame) (page : PageName) → IsHeld page frames → IsSome (holder frames page)
held_frame frames page is = ap is_some is.1.holder.holder

module _ (image : Image) where
  abbrev There : ℕ → ℕ → Type 0
  There space number = IsSome (page_of image space number)

  pub begin_there : (new : Bool) (trx writer index : ℕ) → There 0 (header_page trx) → AllByRecursion (IsOnPage image) (records_of_begin new trx writer index)
  begin_there true trx writer index there = (there, (there, tt))
  begin_there false trx writer index there = (there, tt)

  pub commit_there : (trx position : ℕ) → There 0 (header_page trx) → There 0 0 → AllByRecursion (IsOnPage image) (commit_records trx position)
  commit_there trx position header system = (header, (system, tt))

  pub change_there : (new row_new : Bool) (trx count : ℕ) (e : UndoEntry) (bytes : List ℕ) → There 0 (record_page trx count) → There 0 (header_page trx) → There e.table e.page → AllByRecursion (IsOnPage image) (records_of_change new row_new trx count e bytes)
  change_there true true trx count e bytes undo header row = (undo, (undo, (header, (row, (row, tt)))))
  change_there true false trx count e bytes undo header row = (undo, (undo, (header, (row, tt))))
  change_there false true trx count e bytes undo header row = (undo, (header, (row, (row, tt))))
  change_there false false trx count e bytes undo header row = (undo, (header, (row, tt)))

  pub taking_back_there : (trx count : ℕ) (e : UndoEntry) → There e.table e.page → There 0 (header_page trx) → AllByRecursion (IsOnPage image) (records_of_taking_back trx count e)
  taking_back_there trx count e row header = (row, (header, tt))

module _ (frames : List Frame) where
  abbrev Framed : ℕ → ℕ → Type 0
  Framed space number = IsSome (holder frames (record { space = space; number = number }))

  pub change_framed : (new row_new : Bool) (trx count : ℕ) (e : UndoEntry) (bytes : List ℕ) → Framed 0 (record_page trx count) → Framed 0 (header_page trx) → Framed e.table e.page → AllByRecursion (HasFrame frames) (records_of_change new row_new trx count e bytes)
  change_framed true true trx count e bytes undo header row = (undo, (undo, (header, (row, (row, tt)))))
  change_framed true false trx count e bytes undo header row = (undo, (undo, (header, (row, tt))))
  change_framed false true trx count e bytes undo header row = (undo, (header, (row, (row, tt))))
  change_framed false false trx count e bytes undo header row = (undo, (header, (row, tt)))

pub change_edits : (new row_new : Bool) (trx count : ℕ) (e : UndoEntry) (bytes : List ℕ) → AllByRecursion EditsPages (records_of_change new row_new trx count e bytes)
change_edits true true trx count e bytes = (tt, (tt, (tt, (tt, (tt, tt)))))
change_edits true false trx count e bytes = (tt, (tt, (tt, (tt, tt))))
change_edits false true trx count e bytes = (tt, (tt, (tt, (tt, tt))))
change_edits false false trx count e bytes = (tt, (tt, (tt, tt)))
