-- The records of the mini-transactions that make, lengthen and drop the space of a table.
use Rattle.std.specs.Prelude.{ℕ, ◌+◌, List, [], ◌∷◌, replicate}
use Rattle.byteorder.specs.Endian.{big_bytes}
use Rattle.clone_page.specs.Dictionary.{entry}
use Rattle.clone_page.specs.declared.layout.TheConstants.{ENTRY_BYTES, NEXT_AT}
use Rattle.clone_page.specs.declared.kind.PageKind.TheVariants.{Overflow}
use Rattle.clone_mtr.specs.declared.record.Record.{Record}
use Rattle.clone_mtr.specs.declared.record.Record.TheVariants.{Init, Write, Extend, Create, Drop}
use Rattle.clone_space.specs.declared.entry.TableEntry.{TableEntry}
use Rattle.clone_space.specs.Entries.{entry_at_offset, pages_at}

-- the 16 bytes of an entry: table, buckets, pages, and four zero bytes
abbrev pub entry_bytes : TableEntry → List ℕ
entry_bytes e = entry e.table e.buckets e.pages

-- bytes are written on the system page
abbrev pub system_write : ℕ → List ℕ → Record
system_write at bytes = Write 0 0 record { offset = at; bytes = bytes }

-- the entry with this number becomes this one
abbrev pub entry_record : ℕ → TableEntry → Record
entry_record entry_number e = system_write (entry_at_offset entry_number) (entry_bytes e)

-- the entry with this number tells so many pages
abbrev pub size_record : ℕ → ℕ → Record
size_record entry_number pages = system_write (pages_at entry_number) (big_bytes 4 pages)

-- the entry with this number becomes zero bytes
abbrev pub free_record : ℕ → Record
free_record entry_number = system_write (entry_at_offset entry_number) (replicate ENTRY_BYTES 0)

-- the page of a chain gets this page behind it
abbrev pub link_record : ℕ → ℕ → ℕ → Record
link_record table page next = Write table page record { offset = NEXT_AT; bytes = big_bytes 4 next }

-- a table is made, with a page for each bucket
abbrev pub records_of_create : ℕ → ℕ → ℕ → List Record
records_of_create entry_number table buckets =
    Create table buckets
    ∷ entry_record entry_number (record { table = table; buckets = buckets; pages = buckets }) ∷ []

-- a space of so many pages gets one more, an overflow page behind the last page of a chain
abbrev pub records_of_growth : ℕ → ℕ → ℕ → ℕ → List Record
records_of_growth entry_number table pages last =
    size_record entry_number (pages + 1) ∷ Extend table (pages + 1) ∷ Init table pages Overflow
    ∷ link_record table last pages ∷ []

-- a table is dropped
abbrev pub records_of_drop : ℕ → ℕ → List Record
records_of_drop entry_number table = Drop table ∷ free_record entry_number ∷ []
