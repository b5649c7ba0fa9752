-- An overlay that is written to its disk.
use Rattle.std.specs.Prelude.{ℕ, ◌≡◌, ◌≤◌, ◌==◌, ◌&&◌, nat_lt, is_none, if◌then◌else◌, List, None, fold}
use Rattle.std.specs.FinMap as finite
use Rattle.clone_outside.specs.Disk.{DiskImage, whole, with_page, with_extended, with_created, with_removed, space_numbers}
use Rattle.clone_image.specs.Image.{Image}
use Rattle.clone_overlay.specs.Covers.{Cover, Overlay}
use Rattle.clone_overlay.specs.Images.{redo_space, image_of, IsQuiet}

-- a page is written whole
abbrev pub with_whole : ℕ → DiskImage → ℕ → List ℕ → DiskImage
with_whole space m number page = with_page m space number (λ _. whole page)

-- pages of a space are written, one after the other
abbrev pub with_leaves : ℕ → DiskImage → List (ℕ × List ℕ) → DiskImage
with_leaves space m entries = fold (λ n e. with_whole space n e.0 e.1) m entries

-- a space is made anew, or keeps its pages and gets as many as it is to have
abbrev pub with_count : ℕ → DiskImage → Cover → DiskImage
with_count space m cover =
    if cover.kept == 0 then with_created m space cover.count else with_extended m space cover.count

-- a space gets its pages, and those that are held are written
abbrev pub with_sheet : DiskImage → ℕ → Cover → DiskImage
with_sheet m space cover =
    with_leaves space (with_count space m cover) (finite.entries cover.leaves)

abbrev pub with_sheets : DiskImage → List (ℕ × Cover) → DiskImage
with_sheets m entries = fold (λ n e. with_sheet n e.0 e.1) m entries

-- a space is removed, if it is no redo and the overlay has none of its number
abbrev pub without_space : Overlay → DiskImage → ℕ → DiskImage
without_space overlay m space =
    if nat_lt space redo_space && is_none (finite.get overlay space)
    then with_removed m space else m

abbrev pub without_spaces : Overlay → DiskImage → List ℕ → DiskImage
without_spaces overlay m spaces = fold (without_space overlay) m spaces

-- the disk once an overlay was written to it
abbrev pub written_out : Overlay → DiskImage → DiskImage
written_out overlay m =
    with_sheets (without_spaces overlay m (space_numbers m)) (finite.entries overlay)

-- no space of the image has the number of the redo's or a higher one
abbrev pub HasTablesOnly : Image → Type 0
HasTablesOnly image = (space : ℕ) → redo_space ≤ space → finite.get image space ≡ None

-- The disk has this image, and no page is being written. The mark and the spaces from the redo's on
-- are as they were.
pub record IsWritten (old new : DiskImage) (image : Image) : Type 0 where
  pub is : image_of new ≡ image
  pub quiet : IsQuiet new
  pub others : (space : ℕ) → redo_space ≤ space
      → finite.get new.spaces space ≡ finite.get old.spaces space
  pub mark : new.mark ≡ old.mark
