-- The way of each call: which pages it reads, in their order, and what it writes.
use Rattle.std.specs.Prelude.{ℕ, ◌==◌, ◌&&◌, ◌-◌, ◌+◌, nat_lt, nat_le, Bool, true, false, if◌then◌else◌, List, length, None, Some, unwrap_or, slice_get, min}
use Rattle.std.specs.declared.option.Option.{Option}
use Rattle.clone_base.specs.declared.limits.TheConstants.{VALUE_LIMIT}
use Rattle.clone_model.specs.declared.change.Change.{Change}
use Rattle.clone_model.specs.declared.line.TheConstants.{MOST_PAGES}
use Rattle.clone_page.specs.Header.{kind_of}
use Rattle.clone_page.specs.Slots.{row_slot_count}
use Rattle.clone_pool.specs.declared.frame.PageName.{PageName}
use Rattle.clone_row.specs.Slots as rows
use Rattle.clone_undo.specs.Entries.{UndoEntry}
use Rattle.clone_undo.specs.Places.{header_page, record_page}
use Rattle.clone_undo.specs.Slots.{entry_on}
use Rattle.clone_undo.specs.Changes.{records_of_begin, records_of_change, records_of_taking_back, records_of_end}
use Rattle.clone_space.specs.Entries.{dictionary, entry_in}
use Rattle.clone_space.specs.Records.{records_of_create, records_of_drop, records_of_growth}
use Rattle.clone_contents.specs.Records.{commit_records}
use Rattle.clone_plain.specs.declared.refusal.Cause.TheVariants.{SpaceFull}
use Rattle.clone_plain.specs.Causes.{least_unused}
use Rattle.clone_plain.specs.Donor.{Donor, changes_of}
use Rattle.clone_trx.specs.declared.walk.Course.{Course}
use Rattle.clone_trx.specs.RowSlots.{named_entry, held_value, told, page_number}
use Rattle.clone_trx.specs.Ways.{Way, reads, walks, stops, writes, freshens, lengthens, makes, drops, ends}

-- the walk along the chain of a row's bucket
abbrev pub row_walk : Donor → ℕ → ℕ → Bool → Course
row_walk d table key for_room =
    record { table = table; first = page_number d table key; key = key; for_room = for_room }

-- the page of the row that an undo record tells of
abbrev pub row_page : UndoEntry → PageName
row_page e = record { space = e.table; number = e.page }

-- a page of the system space
abbrev pub system_page : ℕ → PageName
system_page number = record { space = 0; number = number }

-- a page was never used
abbrev pub is_new : List ℕ → Bool
is_new page = kind_of page == 0

-- the number of the first entry on the system page that names a table; where there is none, the
-- first of all
abbrev pub number_of_entry : ℕ → List ℕ → ℕ
number_of_entry table page = unwrap_or (named_entry table (dictionary page)) 0

-- the number of the first free entry, which names the table 0
abbrev pub number_of_free_entry : List ℕ → ℕ
number_of_free_entry page = number_of_entry 0 page

-- how many pages the entry with a number on the system page tells
abbrev pub pages_told : List ℕ → ℕ → ℕ
pages_told page entry_number = (entry_in (dictionary page) entry_number).pages

-- A new table takes the first free entry of the dictionary.
abbrev pub create_way : ℕ → ℕ → Way
create_way table buckets =
    reads (system_page 0)
    (λ page. makes (records_of_create (number_of_free_entry page) table buckets))

-- A table that is dropped gives up the pages of its space, as many as its entry tells, but no more
-- than a space may have. Its entry is free then.
abbrev pub drop_at : ℕ → ℕ → ℕ → Way
drop_at table entry_number pages =
    drops table (min pages MOST_PAGES) (records_of_drop entry_number table)

abbrev pub drop_way : ℕ → Way
drop_way table =
    reads (system_page 0)
    (λ page. let entry_number = number_of_entry table page in
    drop_at table entry_number (pages_told page entry_number))

-- A transaction that begins takes its undo slot. The slot's first page is made first where it is
-- new.
abbrev pub begin_way : Donor → ℕ → ℕ → Way
begin_way d writer index =
    let trx = unwrap_or (least_unused d.active) 0 in
    reads (system_page (header_page trx))
    (λ page. writes (records_of_begin (is_new page) trx writer index))

-- A change writes its undo record, the new count of its undo slot, and the row's slot. Of the pages
-- of the undo record and of the row, one that is new is made first.
abbrev pub told_way : ℕ → Change → ℕ → Bool → UndoEntry → Way
told_way trx change count new before =
    reads (system_page (header_page trx)) (λ header. reads (system_page (record_page trx count))
    (λ undo. writes (records_of_change (is_new undo) new trx count before
    (rows.image change.key change.value))))

-- a change of a row in a slot of a page that is new or not, where the row had a value or none
abbrev pub slot_way : Donor → ℕ → Change → ℕ → ℕ → Bool → Option (List ℕ) → Way
slot_way d trx change page slot_number new value =
    told_way trx change (length (changes_of d trx)) new
    (told change.table page change.key slot_number value)

-- The space of a table gets one page more, behind the last page of a full chain, and the row goes
-- to the first slot there. No space gets more than 65,536 pages.
abbrev pub grown_way : Donor → ℕ → Change → ℕ → ℕ → ℕ → Way
grown_way d trx change last entry_number pages =
    if nat_le MOST_PAGES pages then stops SpaceFull
    else lengthens (records_of_growth entry_number change.table pages last)
    (slot_way d trx change pages 0 false None)

-- a frame is taken for the page first
abbrev pub longer_at : Donor → ℕ → Change → ℕ → ℕ → ℕ → Way
longer_at d trx change last entry_number pages =
    freshens (record { space = change.table; number = pages })
    (grown_way d trx change last entry_number pages)

-- the dictionary tells how many pages the space has
abbrev pub longer_way : Donor → ℕ → Change → ℕ → Way
longer_way d trx change last =
    reads (system_page 0)
    (λ page. let entry_number = number_of_entry change.table page in
    longer_at d trx change last entry_number (pages_told page entry_number))

-- The row of a key goes to the slot of its chain that is bound to the key, else to the first that
-- was never used. Where the chain has neither, it gets a page more.
abbrev pub change_at : Donor → ℕ → Change → ℕ → Option ℕ → List ℕ → Way
change_at d trx change page None row = longer_way d trx change page
change_at d trx change page (Some slot_number) row =
    slot_way d trx change page slot_number (is_new row) (held_value row slot_number)

abbrev pub change_way : Donor → ℕ → Change → Way
change_way d trx change =
    walks (row_walk d change.table change.key true) (change_at d trx change)

-- only the chain of the row's bucket is read
abbrev pub get_way : Donor → ℕ → ℕ → Way
get_way d table key = walks (row_walk d table key false) (λ page slot row. ends)

-- the undo record tells of a row that was present, or absent
abbrev pub tells_before : UndoEntry → Bool
tells_before e =
    if e.state == 1 then nat_le (length e.value) VALUE_LIMIT
    else (e.state == 2) && (length e.value == 0)

-- the undo record is one of this row, on any page that a row may be on
abbrev pub tells_of : ℕ → ℕ → UndoEntry → Bool
tells_of table key e =
    (e.table == table) && (nat_lt e.page MOST_PAGES
    && (nat_lt e.slot row_slot_count && ((e.key == key) && tells_before e)))

-- What was before a change of a row, by its undo record. One that isn't of the row counts as if it
-- told of an absent row in the first slot of the row's bucket.
abbrev pub before_change : Donor → ℕ → ℕ → UndoEntry → UndoEntry
before_change d table key e =
    if tells_of table key e then e else told table (page_number d table key) key 0 None

-- The last change is taken back by its undo record, on the page that this names, or a transaction
-- without changes gives its undo slot back.
abbrev pub undo_last : Donor → ℕ → Option Change → Way
undo_last d trx None = writes (records_of_end trx)
undo_last d trx (Some change) =
    let count = length (changes_of d trx) in
    reads (system_page (record_page trx (count - 1)))
    (λ page. let before = before_change d change.table change.key (entry_on (count - 1) page) in
    reads (row_page before) (λ row. writes (records_of_taking_back trx count before)))

-- the last change of a transaction, if it has one
abbrev pub last_change : Donor → ℕ → Option Change
last_change d trx = slice_get (changes_of d trx) (length (changes_of d trx) - 1)

-- the first page of the undo slot is read before that
abbrev pub undo_way : Donor → ℕ → Way
undo_way d trx =
    reads (system_page (header_page trx)) (λ header. undo_last d trx (last_change d trx))

-- A commit gives the undo slot back, and writes the new number of commits.
abbrev pub commit_way : Donor → ℕ → Way
commit_way d trx =
    reads (system_page (header_page trx))
    (λ header. reads (system_page 0) (λ page. writes (commit_records trx (length d.binlog + 1))))
