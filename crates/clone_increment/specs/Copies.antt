-- Copies of a disk's files: how many pages each space has, and the pages. A page of a space that is
-- not kept has zero bytes.
use Rattle.std.specs.Prelude.{ℕ, ◌≡◌, ◌++◌, Bool, true, false, List, None, Some, IsSome, nat_lt, option_map, unwrap_or, refl, if◌then◌else◌}
use Rattle.std.specs.declared.option.Option.{Option}
use Rattle.std.specs.Option.{option_map_or}
use Rattle.std.specs.Coded.{Coded, coded×, coded_ℕ, coded_list}
use Rattle.std.specs.FinMap as finite
use Rattle.clone_base.specs.Counted.{Counted}
use Rattle.clone_model.specs.Keys.{row_cmp}
use Rattle.clone_outside.specs.Disk.{DiskImage, page_count, page_of}
use Rattle.clone_outside.specs.declared.disk.Held.{Held}
use Rattle.clone_page.specs.Header.{zero_page}

-- the bytes of pages, each by its space and its number there
abbrev pub PagesByPlace : Type 0
PagesByPlace = finite.FinMap row_cmp (List ℕ)

abbrev pub pages_code : Coded PagesByPlace
pages_code = finite.code (coded× coded_ℕ coded_ℕ) (coded_list coded_ℕ)

abbrev pub counts_code : Coded Counted
counts_code = finite.code coded_ℕ coded_ℕ

-- pages laid over others
abbrev pub laid : PagesByPlace → PagesByPlace → PagesByPlace
laid over under = finite.from_entries (finite.entries over ++ finite.entries under)

-- the page's number is below the count of its space
abbrev pub is_within : Counted → ℕ × ℕ → Bool
is_within counts place =
    option_map_or (λ count. nat_lt place.1 count) (finite.get counts place.0) false

-- a copy of files: the sizes of its spaces, and the pages that it keeps
pub record Copy : Type 0 where
  pub sizes : Counted
  pub pages : PagesByPlace

-- the page at a place, if the space is there and has so many
abbrev pub page_at : Copy → ℕ × ℕ → Option (List ℕ)
page_at copy place =
    if is_within copy.sizes place
    then Some (unwrap_or (finite.get copy.pages place) zero_page)
    else None

-- no page is kept that its space doesn't have
abbrev pub IsBounded : Counted → PagesByPlace → Type 0
IsBounded sizes pages =
    (place : ℕ × ℕ) → IsSome (finite.get pages place) → is_within sizes place ≡ true

-- what a disk has at a place
abbrev pub bytes_at : DiskImage → ℕ × ℕ → Option (List ℕ)
bytes_at image place = option_map (λ held. held.bytes) (page_of image place.0 place.1)

-- no page of the disk is being written
abbrev pub IsQuiet : DiskImage → Type 0
IsQuiet image =
    (place : ℕ × ℕ) (held : Held) → page_of image place.0 place.1 ≡ Some held
    → held.writing ≡ false

-- the copy is the disk's image, page for page
pub record IsImageOf (copy : Copy) (image : DiskImage) : Type 0 where
  pub sizes : (space : ℕ) → finite.get copy.sizes space ≡ page_count image space
  pub pages : (place : ℕ × ℕ) → page_at copy place ≡ bytes_at image place
  pub bounded : IsBounded copy.sizes copy.pages

-- every page of the disk is kept, and nothing else
abbrev pub KeepsAll : Copy → DiskImage → Type 0
KeepsAll copy image = (place : ℕ × ℕ) → finite.get copy.pages place ≡ bytes_at image place
