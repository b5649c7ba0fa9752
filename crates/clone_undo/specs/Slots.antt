-- An undo slot as what its four pages tell: free, or who writes and which changes were made, oldest
-- first.
use Rattle.std.specs.Prelude.{ℕ, zero, suc, ◌==◌, Bool, if◌then◌else◌, List, [], ◌∷◌, ◌++◌, None, Some}
use Rattle.std.specs.declared.option.Option.{Option}
use Rattle.byteorder.specs.Endian.{big_bytes}
use Rattle.clone_page.specs.Bytes.{part, field}
use Rattle.clone_undo.specs.Entries.{UndoEntry, entry_of}
use Rattle.clone_undo.specs.Places.{header_page, header_offset, count_offset, record_page, record_offset}
use Rattle.clone_undo.specs.declared.places.TheConstants.{WRITER_AT, INDEX_AT, RECORD_BYTES}

pub record UndoSlot : Type 0 where
  pub writer : ℕ
  pub index : ℕ
  pub records : List UndoEntry

-- the fields of the header
abbrev pub active_of : List ℕ → ℕ
active_of page = field header_offset 1 page

abbrev pub count_of : List ℕ → ℕ
count_of page = field count_offset 2 page

abbrev pub writer_of : List ℕ → ℕ
writer_of page = field WRITER_AT 4 page

abbrev pub index_of : List ℕ → ℕ
index_of page = field INDEX_AT 8 page

-- the 16 bytes of an active slot's header
abbrev pub header_bytes : ℕ → ℕ → ℕ → List ℕ
header_bytes count writer index =
    1 ∷ 0 ∷ (big_bytes 2 count ++ (big_bytes 4 writer ++ big_bytes 8 index))

-- what the record of this number tells, on its page
abbrev pub entry_on : ℕ → List ℕ → UndoEntry
entry_on i page = entry_of (part (record_offset i) RECORD_BYTES page)

-- what the first records of an undo slot tell
abbrev pub entries : ℕ → (ℕ → List ℕ) → ℕ → List UndoEntry
entries s pages zero = []
entries s pages (suc n) = entries s pages n ++ entry_on n (pages (record_page s n)) ∷ []

-- the header says that the slot is in use
abbrev pub is_in_use : List ℕ → Bool
is_in_use page = active_of page == 1

-- an undo slot, from the pages of the system space by their numbers
abbrev pub undo_slot : ℕ → (ℕ → List ℕ) → Option UndoSlot
undo_slot s pages =
    if is_in_use (pages (header_page s))
    then Some record {
      writer = writer_of (pages (header_page s));
      index = index_of (pages (header_page s));
      records = entries s pages (count_of (pages (header_page s)));
    }
    else None
