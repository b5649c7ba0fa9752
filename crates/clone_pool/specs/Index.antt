-- Names of pages by frame numbers, the frame number of a name, and the chains by which it is found.
use Rattle.std.specs.Prelude.{ℕ, suc, ◌≡◌, ◌≢◌, ◌⊎◌, ◌<◌, ◌≤◌, ◌^◌, ◌+◌, ◌*◌, ◌%◌, Bool, false, ◌==◌, ◌&&◌, List, [], ◌∷◌, length, get_or, slice_index, None, Some, option_map, if◌then◌else◌}
use Rattle.std.specs.declared.option.Option.{Option}
use Rattle.clone_pool.specs.declared.frame.PageName.{PageName}
use Rattle.clone_pool.specs.declared.index.TheConstants.{SPREAD}

-- a page's name, or none
abbrev pub Names : Type 0
Names = List (Option PageName)

-- two names are of one page
abbrev pub is_same : PageName → PageName → Bool
is_same a b = (a.space == b.space) && (a.number == b.number)

-- there is a name, and it is this page's
abbrev pub is_name_of : PageName → Option PageName → Bool
is_name_of page None = false
is_name_of page (Some name) = is_same page name

-- the number of the first frame that has the page's name
abbrev pub frame_number_of : PageName → Names → Option ℕ
frame_number_of page [] = None
frame_number_of page (name ∷ rest) =
    if is_name_of page name then Some 0 else option_map (λ at. suc at) (frame_number_of page rest)

-- the bucket of a page, where there are so many buckets and one more
unfoldable pub bucket_of : ℕ → PageName → ℕ
bucket_of count page = (page.space * SPREAD + page.number) % (count + 1)

-- the bucket of the name of a frame
abbrev pub bucket_at : ℕ → Names → ℕ → Option ℕ
bucket_at count names at = option_map (bucket_of count) (get_or names at None)

-- the first frame of the bucket from one on, or the count where there is none
pub record IsNext (count : ℕ) (names : Names) (bucket from next : ℕ) : Type 0 where
  pub past : from ≤ next
  pub upto : next ≤ count
  pub between : (at : ℕ) → from ≤ at → at < next → bucket_at count names at ≢ Some bucket
  pub there : next < count → bucket_at count names next ≡ Some bucket

-- the cells of the frames and of the buckets lead along the chains
pub record IsIndex (count : ℕ) (names : Names) (cells : List ℕ) : Type 0 where
  pub few : count < 2 ^ 32
  pub named : length names ≡ count
  pub long : length cells ≡ 2 * count + 1
  pub first : (bucket : ℕ) → bucket ≤ count
      → IsNext count names bucket 0 (slice_index cells (count + bucket))
  pub next : (at bucket : ℕ) → bucket_at count names at ≡ Some bucket
      → IsNext count names bucket (at + 1) (slice_index cells at)

-- the cell of a bucket, or of a frame before this one that is in it
abbrev pub IsCellOf : ℕ → Names → ℕ → ℕ → ℕ → Type 0
IsCellOf count names bucket at cell =
    (cell ≡ count + bucket) ⊎ ((cell < at) × (bucket_at count names cell ≡ Some bucket))

-- it leads to this frame or past it
pub record LeadsTo (count : ℕ) (names : Names) (cells : List ℕ) (bucket at cell : ℕ) : Type 0 where
  pub cell_of : IsCellOf count names bucket at cell
  pub reaches : at ≤ slice_index cells cell
