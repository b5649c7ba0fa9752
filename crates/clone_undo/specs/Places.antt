-- Where the undo slots stand in the system space, and what stands where on their pages.
use Rattle.std.specs.Prelude.{ℕ, ◌+◌, ◌*◌, ◌/◌, ◌%◌}
use Rattle.clone_undo.specs.declared.places.TheConstants.{UNDO_SLOT_COUNT, UNDO_SLOT_PAGES, UNDO_CAPACITY, RECORDS_ON_PAGE, RECORDS_AT, RECORD_BYTES, HEADER_AT, COUNT_AT}

abbrev pub undo_slot_count : ℕ
undo_slot_count = UNDO_SLOT_COUNT

-- how many changes an undo slot tells at most
abbrev pub capacity : ℕ
capacity = UNDO_CAPACITY

-- how many of them stand on one page
abbrev pub records_on_page : ℕ
records_on_page = RECORDS_ON_PAGE

-- the first of the four pages of an undo slot, which has its header
abbrev pub header_page : ℕ → ℕ
header_page s = 1 + UNDO_SLOT_PAGES * s

-- the page of an undo record. The records run over the four pages of the slot
abbrev pub record_page : ℕ → ℕ → ℕ
record_page s i = header_page s + (i / records_on_page) % UNDO_SLOT_PAGES

-- where an undo record stands on its page
abbrev pub record_offset : ℕ → ℕ
record_offset i = RECORDS_AT + RECORD_BYTES * (i % records_on_page)

-- where the header stands, and the number of records in it
abbrev pub header_offset : ℕ
header_offset = HEADER_AT

abbrev pub count_offset : ℕ
count_offset = COUNT_AT
