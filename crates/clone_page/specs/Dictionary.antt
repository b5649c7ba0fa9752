-- The dictionary stands on the system page: 62 entries of 16 bytes, each of a space, its buckets
-- and its pages.
use Rattle.std.specs.Prelude.{ℕ, ◌≡◌, ◌<◌, ◌+◌, ◌*◌, List, ◌++◌}
use Rattle.byteorder.specs.Endian.{big_bytes}
use Rattle.clone_page.specs.Bytes.{field}
use Rattle.clone_page.specs.declared.layout.TheConstants.{ENTRY_COUNT, ENTRIES_AT, ENTRY_BYTES, POSITION_AT}

abbrev pub entry_count : ℕ
entry_count = ENTRY_COUNT

abbrev pub entry_at : ℕ → ℕ
entry_at j = ENTRIES_AT + ENTRY_BYTES * j

-- where the number of commits stands on the system page
abbrev pub position_at : ℕ
position_at = POSITION_AT

-- the space that an entry names, or 0 where the entry is free
abbrev pub entry_space : ℕ → List ℕ → ℕ
entry_space j page = field (entry_at j) 4 page

abbrev pub entry : ℕ → ℕ → ℕ → List ℕ
entry space buckets pages =
    big_bytes 4 space ++ big_bytes 4 buckets ++ big_bytes 4 pages ++ big_bytes 4 0

-- the system page lists the table
pub record Lists (page : List ℕ) (table : ℕ) : Type 0 where
  pub entry_number : ℕ
  pub within : entry_number < entry_count
  pub used : 0 < table
  pub named : entry_space entry_number page ≡ table
