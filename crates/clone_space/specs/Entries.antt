-- The dictionary of the system page as a list of its 62 entries. An entry tells a table, how many
-- buckets it has, and how many pages its space has.
use Rattle.std.specs.Prelude.{ℕ, ◌≡◌, ◌≢◌, ◌<◌, ◌+◌, ◌^◌, ◌==◌, not, List, map, filter, slice_index_or, IsSome, MatchOption}
use Rattle.std.specs.declared.option.Option.{Option}
use Rattle.std.specs.List.{range_with_len}
use Rattle.std.specs.FinMap as finite
use Rattle.std.specs.Ordering.{nat_cmp}
use Rattle.clone_page.specs.Bytes.{field}
use Rattle.clone_page.specs.Dictionary as page
use Rattle.clone_page.specs.Dictionary.{entry_count, entry_space}
use Rattle.clone_space.specs.declared.entry.TableEntry.{TableEntry}
use Rattle.clone_space.specs.declared.entry.TheConstants.{BUCKETS_AT, PAGES_AT}

-- where on the system page the entry with this number stands, and in it the number of pages
abbrev pub entry_at_offset : ℕ → ℕ
entry_at_offset j = page.entry_at j

abbrev pub pages_at : ℕ → ℕ
pages_at j = entry_at_offset j + PAGES_AT

-- what the entry with this number tells
abbrev pub entry_on : ℕ → List ℕ → TableEntry
entry_on j page = record {
  table = entry_space j page;
  buckets = field (entry_at_offset j + BUCKETS_AT) 4 page;
  pages = field (pages_at j) 4 page;
}

-- the entries of the system page, by their numbers
unfoldable pub dictionary : List ℕ → List TableEntry
dictionary page = map (λ j. entry_on j page) (range_with_len 0 entry_count)

-- an entry that tells nothing
abbrev pub free : TableEntry
free = record { table = 0; buckets = 0; pages = 0 }

-- the entry with this number in the list, or a free one behind its end
abbrev pub entry_in : List TableEntry → ℕ → TableEntry
entry_in list j = slice_index_or list j free

-- the first entry that names a table, or none where no entry does
abbrev pub Finds : ℕ → List TableEntry → Option ℕ → Type 0
Finds table list found =
    MatchOption found ((k : ℕ) → k < entry_count → ¬ ((entry_in list k).table ≡ table))
    (λ j. (j < entry_count) × ((entry_in list j).table ≡ table)
    × ((k : ℕ) → k < j → ¬ ((entry_in list k).table ≡ table)))

-- A free entry names the table 0, which is none. The first free entry, or none where each names a
-- table.
abbrev pub FindsFree : List TableEntry → Option ℕ → Type 0
FindsFree list found = Finds 0 list found

-- the entries that name a table
abbrev pub in_use : List TableEntry → List TableEntry
in_use list = filter (λ (e : TableEntry). not (e.table == 0)) list

-- the tables, each with how many pages its space has
abbrev pub sizes : List TableEntry → List (ℕ × ℕ)
sizes list = map (λ (e : TableEntry). (e.table, e.pages)) (in_use list)

-- no table has two entries
abbrev pub AreOnce : List TableEntry → Type 0
AreOnce list =
    (i j : ℕ) → (entry_in list i).table ≢ 0 → (entry_in list i).table ≡ (entry_in list j).table
    → i ≡ j

-- each table that is named is one of these, which have so many buckets
abbrev pub AreAmong : finite.FinMap nat_cmp ℕ → List TableEntry → Type 0
AreAmong tables list =
    (j : ℕ) → (entry_in list j).table ≢ 0 → IsSome (finite.get tables (entry_in list j).table)

-- the numbers of an entry have 32 bits
abbrev pub IsEntry : TableEntry → Type 0
IsEntry e = (e.table < 2 ^ 32) × (e.buckets < 2 ^ 32) × (e.pages < 2 ^ 32)
