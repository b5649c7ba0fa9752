-- The pages of an image that mini-transactions made.
use Rattle.std.specs.Prelude.{ℕ, ◌≡◌, ◌≢◌, ◌<◌, ◌⊎◌, List, Some}
use Rattle.clone_page.specs.Header.{zero_page, kind_of}
use Rattle.clone_image.specs.Image.{Image, page_of, page_count, all_pages, AreWholePages}
use Rattle.clone_image.specs.Rows.{HoldsSlots}
use Rattle.clone_contents.specs.Contents.{Contents, contents_of}
use Rattle.clone_contents.specs.Records.{system_size}

-- a page of this kind, or one that was never used
abbrev pub IsOrUnused : ℕ → List ℕ → Type 0
IsOrUnused kind page = (kind_of page ≡ kind) ⊎ (page ≡ zero_page)

-- a bucket page, an overflow page, or one that was never used
abbrev pub IsRowsOrUnused : List ℕ → Type 0
IsRowsOrUnused page = HoldsSlots page ⊎ (page ≡ zero_page)

pub record IsFormed (image : Image) : Type 0 where
  pub whole : AreWholePages image
  pub size : page_count image 0 ≡ Some system_size
  pub system : kind_of (all_pages image 0 0) ≡ 1
  pub undo : (number : ℕ) → number ≢ 0 → number < system_size
      → IsOrUnused 2 (all_pages image 0 number)
  pub tables : (table number : ℕ) (page : List ℕ) → table ≢ 0
      → page_of image table number ≡ Some page → IsRowsOrUnused page

-- the image is formed, and contains this
abbrev pub HasContents : Image → Contents → Type 0
HasContents image c = IsFormed image × (contents_of image ≡ c)
