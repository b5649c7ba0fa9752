-- The rows of an image. No chain is followed.
use Rattle.std.specs.Prelude.{ℕ, ◌≡◌, ◌<◌, ◌⊎◌, List, Some, IsSome, IsSomeAnd}
use Rattle.std.specs.declared.option.Option.{Option}
use Rattle.std.specs.FinMap as finite
use Rattle.clone_model.specs.History.{Row, Rows}
use Rattle.clone_page.specs.Header.{kind_of}
use Rattle.clone_page.specs.Dictionary.{Lists}
use Rattle.clone_page.specs.Slots.{row_slot_count, slot, row_of}

-- from a space and a page number to the page's bytes, where there is such a page
abbrev pub Pages : Type 0
Pages = ℕ → ℕ → Option (List ℕ)

-- the first page of the system space lists the table
abbrev pub IsListed : Pages → ℕ → Type 0
IsListed pages table = IsSomeAnd (pages 0 0) (λ page. Lists page table)

-- a bucket page or an overflow page
abbrev pub HoldsSlots : List ℕ → Type 0
HoldsSlots page = (kind_of page ≡ 3) ⊎ (kind_of page ≡ 4)

-- The row's table is listed, and some page of the table's space has a slot that holds the row's key
-- and value.
pub record HoldsRow (pages : Pages) (row : Row) : Type 0 where
  pub listed : IsListed pages row.0
  pub number : ℕ
  pub page : List ℕ
  pub found : pages row.0 number ≡ Some page
  pub holds : HoldsSlots page
  pub slot_number : ℕ
  pub within : slot_number < row_slot_count
  pub held : row_of (slot slot_number page) ≡ Some (row.1, row.2)

-- the rows of an image are those of a map, as a set of tables, keys and values
pub record HasRows (pages : Pages) (rows : Rows) : Type 0 where
  pub here : (table key : ℕ) (value : List ℕ) → HoldsRow pages (table, key, value)
      → finite.get rows (table, key) ≡ Some value
  pub there : (table key : ℕ) (value : List ℕ) → finite.get rows (table, key) ≡ Some value
      → HoldsRow pages (table, key, value)

-- the image has no two values for one row
abbrev pub AreOnce : Pages → Type 0
AreOnce pages =
    (table key : ℕ) (value other : List ℕ) → HoldsRow pages (table, key, value)
    → HoldsRow pages (table, key, other) → value ≡ other

-- A map shows the rows of an image: whatever it has at a table and a key is a row of the image, and
-- it has a value wherever the image has a row. Where the image has no two values for one row, the
-- rows of the map are those of the image as a set.
pub record ShowsRows (pages : Pages) (rows : Rows) : Type 0 where
  pub sound : (table key : ℕ) (value : List ℕ) → finite.get rows (table, key) ≡ Some value
      → HoldsRow pages (table, key, value)
  pub complete : (table key : ℕ) (value : List ℕ) → HoldsRow pages (table, key, value)
      → IsSome (finite.get rows (table, key))
  pub all : AreOnce pages → HasRows pages rows
