-- The rows of a disk.
use Rattle.std.specs.Prelude.{ℕ, ◌≡◌, List, IsSomeAnd}
use Rattle.std.specs.declared.option.Option.{Option}
use Rattle.clone_model.specs.History.{Row, Rows, rows_in}
use Rattle.clone_outside.specs.Disk.{DiskImage, ForTold}
use Rattle.clone_image.specs.Added.{Adds, InTable, InTables}
use Rattle.clone_image.specs.Image.{Image, page_of}
use Rattle.clone_image.specs.Rows.{ShowsRows}
use Rattle.clone_overlay.specs.Images.{image_of, IsQuiet}
use Rattle.clone_recover.specs.Restores.{IsRecoveredDisk}

-- the rows of a table of a quiet disk are added
abbrev pub AddsTable : Option DiskImage → ℕ → Rows → Rows → Type 0
AddsTable told table old new =
    ForTold told (λ m. IsQuiet m → Adds old new (InTable (image_of m) table))

-- a row of a table that the system page lists, if that page is there
abbrev pub InListed : Image → Row → Type 0
InListed image row = IsSomeAnd (page_of image 0 0) (λ system. InTables image system row)

abbrev pub AddsListed : Option DiskImage → Rows → Rows → Type 0
AddsListed told old new = ForTold told (λ m. IsQuiet m → Adds old new (InListed (image_of m)))

-- The disk is a recovered one, and where it is quiet these are its rows, ascending.
pub record ListsRows (m : DiskImage) (list : List Row) : Type 0 where
  pub mark : IsRecoveredDisk m
  pub rows : IsQuiet m → (rows : Rows) × ShowsRows (page_of (image_of m)) rows
      × (list ≡ rows_in rows)

abbrev pub ListsRowsOn : Option DiskImage → List Row → Type 0
ListsRowsOn told list = ForTold told (λ m. ListsRows m list)
