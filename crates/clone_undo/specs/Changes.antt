-- The records of the mini-transactions of an undo slot, and what they do to pages.
use Rattle.std.specs.Prelude.{ℕ, ◌≡◌, ◌≤◌, ◌<◌, ◌+◌, ◌-◌, ◌==◌, ◌&&◌, Bool, true, false, if◌then◌else◌, List, [], ◌∷◌, ◌++◌, length, replicate}
use Rattle.byteorder.specs.Endian.{big_bytes}
use Rattle.clone_base.specs.declared.limits.TheConstants.{PAGE_SIZE, VALUE_LIMIT}
use Rattle.clone_page.specs.declared.kind.PageKind.{PageKind}
use Rattle.clone_page.specs.declared.kind.PageKind.TheVariants.{Undo, Bucket}
use Rattle.clone_page.specs.Slots.{slot_at}
use Rattle.clone_mtr.specs.Effects.{effect}
use Rattle.clone_mtr.specs.declared.record.Record.{Record}
use Rattle.clone_mtr.specs.declared.record.Record.TheVariants.{Init, Write, Extend, Create, Drop}
use Rattle.clone_undo.specs.Entries.{UndoEntry, entry_bytes}
use Rattle.clone_undo.specs.Places.{header_page, record_page, record_offset, header_offset, count_offset}
use Rattle.clone_undo.specs.Slots.{header_bytes}
use Rattle.clone_undo.specs.declared.places.TheConstants.{HEADER_BYTES, UNDO_SLOT_PAGES}

-- bytes are written on a page of the system space
abbrev pub system_write : ℕ → ℕ → List ℕ → Record
system_write page at bytes = Write 0 page record { offset = at; bytes = bytes }

-- a page that is unused is made first
abbrev pub made_first : Bool → ℕ → ℕ → PageKind → List Record
made_first true space page kind = Init space page kind ∷ []
made_first false space page kind = []

-- a transaction begins
abbrev pub records_of_begin : Bool → ℕ → ℕ → ℕ → List Record
records_of_begin unused s writer index =
    made_first unused 0 (header_page s) Undo
    ++ system_write (header_page s) header_offset (header_bytes 0 writer index) ∷ []

abbrev pub count_record : ℕ → ℕ → Record
count_record s count = system_write (header_page s) count_offset (big_bytes 2 count)

abbrev pub entry_record : ℕ → ℕ → UndoEntry → Record
entry_record s count e = system_write (record_page s count) (record_offset count) (entry_bytes e)

-- the row slot that the undo record names gets these bytes
abbrev pub row_record : UndoEntry → List ℕ → Record
row_record e image = Write e.table e.page record { offset = slot_at e.slot; bytes = image }

-- a change behind so many others: the undo record, the new count, and the row slot
abbrev pub records_of_change : Bool → Bool → ℕ → ℕ → UndoEntry → List ℕ → List Record
records_of_change unused row_unused s count e image =
    made_first unused 0 (record_page s count) Undo
    ++ entry_record s count e ∷ count_record s (count + 1)
    ∷ (made_first row_unused e.table e.page Bucket ++ row_record e image ∷ [])

-- the row slot as it was before the change: its state, its length, its key and its value, with zero
-- bytes behind it
abbrev pub slot_before : UndoEntry → List ℕ
slot_before e =
    e.state ∷ length e.value ∷ (replicate 6 0
    ++ (big_bytes 8 e.key ++ (e.value ++ replicate (VALUE_LIMIT - length e.value) 0)))

-- the last of so many changes is taken back: the row slot is as it was before, and the count is one
-- less
abbrev pub records_of_taking_back : ℕ → ℕ → UndoEntry → List Record
records_of_taking_back s count e = row_record e (slot_before e) ∷ count_record s (count - 1) ∷ []

-- a transaction ends
abbrev pub records_of_end : ℕ → List Record
records_of_end s = system_write (header_page s) header_offset (replicate HEADER_BYTES 0) ∷ []

-- the pages, by space and number, after one of them was edited
abbrev pub pages_after_edit : ℕ → ℕ → (List ℕ → List ℕ) → (ℕ → ℕ → List ℕ) → ℕ → ℕ → List ℕ
pages_after_edit space number edit pages s n =
    if (s == space) && (n == number) then edit (pages s n) else pages s n

-- The pages after a record. Only an INIT and a WRITE change a page that is there, and the
-- mini-transactions of an undo slot have no others.
abbrev pub pages_after_record : ℕ → Record → (ℕ → ℕ → List ℕ) → ℕ → ℕ → List ℕ
pages_after_record lsn (Init space number kind) pages =
    pages_after_edit space number (effect lsn (Init space number kind)) pages
pages_after_record lsn (Write space number patch) pages =
    pages_after_edit space number (effect lsn (Write space number patch)) pages
pages_after_record lsn (Extend space count) pages = pages
pages_after_record lsn (Create space count) pages = pages
pages_after_record lsn (Drop space) pages = pages

-- the pages after records in their order
abbrev pub after : ℕ → List Record → (ℕ → ℕ → List ℕ) → ℕ → ℕ → List ℕ
after lsn [] pages = pages
after lsn (r ∷ rs) pages = after lsn rs (pages_after_record lsn r pages)

-- the pages of an undo slot are whole
abbrev pub AreWhole : ℕ → (ℕ → List ℕ) → Type 0
AreWhole s pages =
    (m : ℕ) → header_page s ≤ m → m < header_page s + UNDO_SLOT_PAGES → length (pages m) ≡ PAGE_SIZE

-- the page of a row after its records: it may be made first, and then its slot gets the bytes
abbrev pub after_row : Bool → ℕ → UndoEntry → List ℕ → List ℕ → List ℕ
after_row true lsn e image page =
    effect lsn (row_record e image) (effect lsn (Init e.table e.page Bucket) page)
after_row false lsn e image page = effect lsn (row_record e image) page
