-- The rows that are found slot by slot, page by page and table by table, and the map to which they
-- are added.
use Rattle.std.specs.Prelude.{ℕ, ◌≡◌, ◌<◌, ◌⊎◌, List, length, Some, IsSome, IsSomeAnd, slice_get}
use Rattle.std.specs.FinMap as finite
use Rattle.clone_model.specs.History.{Row, Rows}
use Rattle.clone_page.specs.Dictionary.{entry_count, entry_space}
use Rattle.clone_page.specs.Slots.{row_slot_count, slot, row_of}
use Rattle.clone_image.specs.Image.{Image}
use Rattle.clone_image.specs.Rows.{HoldsSlots}

-- Whatever the new map has is of the old one or one of the rows found. What has a value keeps
-- having one, and each row found has one.
pub record Adds (old new : Rows) (Found : Row → Type 0) : Type 0 where
  pub sound : (table key : ℕ) (value : List ℕ) → finite.get new (table, key) ≡ Some value
      → (finite.get old (table, key) ≡ Some value) ⊎ Found (table, key, value)
  pub stays : (table key : ℕ) → IsSome (finite.get old (table, key))
      → IsSome (finite.get new (table, key))
  pub complete : (table key : ℕ) (value : List ℕ) → Found (table, key, value)
      → IsSome (finite.get new (table, key))

-- a row that is found at some index below the count
pub record Below (count : ℕ) (At : ℕ → Row → Type 0) (row : Row) : Type 0 where
  pub index : ℕ
  pub within : index < count
  pub held : At index row

-- the table's row that a slot of a page holds
pub record InSlot (table : ℕ) (page : List ℕ) (slot_number : ℕ) (row : Row) : Type 0 where
  pub own : row.0 ≡ table
  pub held : row_of (slot slot_number page) ≡ Some (row.1, row.2)

-- a row that a page of the table holds
pub record InPage (table : ℕ) (page : List ℕ) (row : Row) : Type 0 where
  pub kind : HoldsSlots page
  pub slots : Below row_slot_count (InSlot table page) row

-- a row of the page of this number, if there is one
abbrev pub AtPage : ℕ → List (List ℕ) → ℕ → Row → Type 0
AtPage table pages number row = IsSomeAnd (slice_get pages number) (λ page. InPage table page row)

-- a row of some page of the table
abbrev pub InPages : ℕ → List (List ℕ) → Row → Type 0
InPages table pages row = Below (length pages) (AtPage table pages) row

-- a row of the table, whose space has its number, if the space is there
abbrev pub InTable : Image → ℕ → Row → Type 0
InTable image table row = IsSomeAnd (finite.get image table) (λ pages. InPages table pages row)

-- a row of the table that this entry of the dictionary names, if it names one
pub record AtEntry (image : Image) (system : List ℕ) (entry_number : ℕ) (row : Row) : Type 0 where
  pub used : 0 < entry_space entry_number system
  pub rows : InTable image (entry_space entry_number system) row

-- a row of some table that the dictionary names
abbrev pub InTables : Image → List ℕ → Row → Type 0
InTables image system row = Below entry_count (AtEntry image system) row
