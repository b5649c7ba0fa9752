-- The laws of contents: what each mini-transaction, each edit of recovery and each look-up says of
-- a formed image, and where its pages stand.
use Rattle.std.specs.Prelude.{ℕ, ◌≡◌, ◌≢◌, ◌<◌, ◌+◌, ◌^◌, List, [], ◌∷◌, ◌++◌, length, None, Some}
use Rattle.std.specs.declared.option.Option.{Option}
use Rattle.std.specs.List.{AllByRecursion}
use Rattle.std.specs.FinMap as finite
use Rattle.clone_model.specs.History.{Row}
use Rattle.clone_mtr.specs.declared.record.Record.{Record}
use Rattle.clone_mtr.specs.Spelling.{log_of}
use Rattle.clone_space.specs.Records.{records_of_create}
use Rattle.clone_row.specs.Chains.{behind}
use Rattle.clone_row.specs.Slots as rows
use Rattle.clone_row.specs.Slots.{slots, slot_in, Finds, FindsFree}
use Rattle.clone_undo.specs.Entries.{UndoEntry}
use Rattle.clone_undo.specs.Places.{undo_slot_count, header_page, record_page}
use Rattle.clone_undo.specs.Slots.{UndoSlot}
use Rattle.clone_undo.specs.Changes.{records_of_begin, records_of_change, records_of_taking_back, records_of_end}
use Rattle.clone_image.specs.Image.{Image, page_of, after_records}
use Rattle.clone_image.specs.Recovered as recovered
use Rattle.clone_image.specs.Replay.{first_lsn, replayed, IsSpelled}
use Rattle.clone_image.specs.Rows.{HoldsRow}
use Rattle.clone_contents.specs.Contents.{contents_of, undone, with_undo}
use Rattle.clone_contents.specs.Finding.{FindsIn, FindsFreeIn}
use Rattle.clone_contents.specs.Formed.{IsFormed, HasContents}
use Rattle.clone_contents.specs.Placed.{WasPlaced}
use Rattle.clone_contents.specs.Records.{opening_records, commit_records}
use Rattle.clone_contents.specs.Rows.{IsRowIn}
use Rattle.clone_contents.specs.Steps.{is_unused, opened, MayCreate, created, MayBegin, begun, MayChange, changed, MayTakeBack, taken_back, ended, committed, MayUndo}

-- The mini-transactions.

abbrev pub OpeningLaw : Type 0
OpeningLaw = (lsn : ℕ) → HasContents (after_records lsn finite.empty opening_records) opened

abbrev pub CreateLaw : Type 0
CreateLaw =
    (lsn entry_number table buckets : ℕ) (image : Image) → IsFormed image
    → MayCreate (contents_of image) entry_number table buckets
    → HasContents (after_records lsn image (records_of_create entry_number table buckets))
    (created entry_number table buckets (contents_of image))

abbrev pub BeginLaw : Type 0
BeginLaw =
    (lsn s writer index : ℕ) (image : Image) → IsFormed image → MayBegin s writer index
    → HasContents
    (after_records lsn image
    (records_of_begin (is_unused image 0 (header_page s)) s writer index))
    (begun s writer index (contents_of image))

abbrev pub ChangeLaw : Type 0
ChangeLaw =
    (lsn s : ℕ) (image : Image) (slot : UndoSlot) (e : UndoEntry) (value : Option (List ℕ))
    → IsFormed image → MayChange (contents_of image) s slot e value
    → let records =
    records_of_change (is_unused image 0 (record_page s (length slot.records)))
    (is_unused image e.table e.page) s (length slot.records) e (rows.image e.key value) in
    HasContents (after_records lsn image records) (changed s slot e value (contents_of image))

abbrev pub TakingBackLaw : Type 0
TakingBackLaw =
    (lsn s : ℕ) (image : Image) (slot : UndoSlot) (front : List UndoEntry) (e : UndoEntry)
    → IsFormed image → MayTakeBack (contents_of image) s slot front e
    → HasContents (after_records lsn image (records_of_taking_back s (length slot.records) e))
    (taken_back s slot front e (contents_of image))

abbrev pub EndLaw : Type 0
EndLaw =
    (lsn s : ℕ) (image : Image) (slot : UndoSlot) → IsFormed image → s < undo_slot_count
    → (contents_of image).undo s ≡ Some slot
    → HasContents (after_records lsn image (records_of_end s)) (ended s (contents_of image))

abbrev pub CommitLaw : Type 0
CommitLaw =
    (lsn s position : ℕ) (image : Image) (slot : UndoSlot) → IsFormed image → s < undo_slot_count
    → (contents_of image).undo s ≡ Some slot → position < 2 ^ 64
    → HasContents (after_records lsn image (commit_records s position))
    (committed s position (contents_of image))

-- Recovery's edits.

abbrev pub UndoingLaw : Type 0
UndoingLaw =
    (image : Image) (e : UndoEntry) → IsFormed image → MayUndo (contents_of image) e
    → HasContents (recovered.undone image e) (undone e (contents_of image))

abbrev pub FreeingLaw : Type 0
FreeingLaw =
    (image : Image) (s : ℕ) (slot : UndoSlot) → IsFormed image → s < undo_slot_count
    → (contents_of image).undo s ≡ Some slot
    → HasContents (recovered.freed image s) (with_undo s None (contents_of image))

-- Rows and look-ups.

-- a row of the contents is one of the image
abbrev pub RowsShown : Type 0
RowsShown =
    (image : Image) (row : Row) → IsFormed image → IsRowIn (contents_of image) row
    → HoldsRow (page_of image) row

-- a row of the image is one of the contents
abbrev pub RowsContained : Type 0
RowsContained =
    (image : Image) (row : Row) → IsFormed image → HoldsRow (page_of image) row
    → IsRowIn (contents_of image) row

-- a slot of a table's page is that of the contents
abbrev pub SlotsContained : Type 0
SlotsContained =
    (image : Image) (table number j : ℕ) (page : List ℕ) → table ≢ 0
    → page_of image table number ≡ Some page
    → (contents_of image).slot table number j ≡ slot_in (slots page) j

-- the slot of a key that is found on a table's page is that of the contents
abbrev pub KeysFound : Type 0
KeysFound =
    (image : Image) (table number key : ℕ) (page : List ℕ) (found : Option ℕ) → table ≢ 0
    → page_of image table number ≡ Some page
    → Finds key (slots page) found → FindsIn (contents_of image) table number key found

-- the free slot that is found on a table's page is that of the contents
abbrev pub FreeFound : Type 0
FreeFound =
    (image : Image) (table number : ℕ) (page : List ℕ) (found : Option ℕ) → table ≢ 0
    → page_of image table number ≡ Some page
    → FindsFree (slots page) found → FindsFreeIn (contents_of image) table number found

-- the page behind a table's page is that of the contents
abbrev pub NextFound : Type 0
NextFound =
    (image : Image) (table number : ℕ) (page : List ℕ) → table ≢ 0
    → page_of image table number ≡ Some page
    → (contents_of image).next table number ≡ behind page

-- Where pages stand.

-- before the first mini-transaction no page is there
abbrev pub PlacedFirst : Type 0
PlacedFirst = (space number : ℕ) → WasPlaced space number []

-- with one more mini-transaction that leaves a formed image, the page was at its place at each
-- moment still
abbrev pub PlacedLonger : Type 0
PlacedLonger =
    (log : List (List Record)) (m : List Record) → AllByRecursion IsSpelled log → IsSpelled m
    → first_lsn + length (log_of (log ++ m ∷ [])) < 2 ^ 64
    → IsFormed (replayed (log ++ m ∷ []))
    → (space number : ℕ) → WasPlaced space number log → WasPlaced space number (log ++ m ∷ [])
