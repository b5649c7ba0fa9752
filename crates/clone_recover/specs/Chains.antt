-- The chains of a table, and what of them is against the format. A chain begins with a bucket, and
-- each of its pages names the one behind it.
use Rattle.std.specs.Prelude.{ℕ, zero, suc, ◌≡◌, ◌≢◌, ◌<◌, ◌≤◌, ◌⊎◌, List, ◌∷◌, Some, unwrap_or, option_and_then}
use Rattle.std.specs.declared.option.Option.{Option}
use Rattle.std.specs.List.{AllByRecursion}
use Rattle.clone_row.specs.Chains.{behind, IsChain}
use Rattle.clone_space.specs.Entries.{dictionary, entry_in}
use Rattle.clone_image.specs.Image.{Image, page_of, page_count, all_pages}

-- how many pages a space has, none where it isn't there
abbrev pub size_in : Image → ℕ → ℕ
size_in image space = unwrap_or (page_count image space) 0

-- the page behind a page of a space on its chain, or none at the chain's end
abbrev pub next_in : Image → ℕ → ℕ → Option ℕ
next_in image space number = behind (all_pages image space number)

-- the page at an index of a chain, counted from its first page on, or none behind its end
abbrev pub page_at : (ℕ → Option ℕ) → ℕ → ℕ → Option ℕ
page_at next first zero = Some first
page_at next first (suc index) = option_and_then next (page_at next first index)

-- A chain goes astray behind this page: the page names one past the end of the space, or one that
-- the chain has come to before. The pages up to there are different ones.
pub record GoesAstray (next : ℕ → Option ℕ) (size first page : ℕ) : Type 0 where
  pub index : ℕ
  pub comes : page_at next first index ≡ Some page
  pub apart : (i j : ℕ) → i < j → j ≤ index → page_at next first i ≢ page_at next first j
  pub target : ℕ
  pub named : next page ≡ Some target
  pub wrong : (size ≤ target)
      ⊎ ((before : ℕ) × (before ≤ index) × (page_at next first before ≡ Some target))

-- The chain of a bucket is against the format on this page: the bucket isn't there, or the chain
-- goes astray behind the page.
pub data IsBrokenChain (image : Image) (table bucket : ℕ) : ℕ → Type 0 where
  no_bucket : size_in image table ≤ bucket → IsBrokenChain image table bucket bucket
  astray : (page : ℕ) → GoesAstray (next_in image table) (size_in image table) bucket page
      → IsBrokenChain image table bucket page

-- a chain comes to its end, and each of its pages is there
pub record IsWhole (next : ℕ → Option ℕ) (size first : ℕ) : Type 0 where
  pub rest : List ℕ
  pub chain : IsChain next first rest
  pub there : AllByRecursion (λ page. page < size) (first ∷ rest)

abbrev pub IsWholeChain : Image → ℕ → ℕ → Type 0
IsWholeChain image table bucket = IsWhole (next_in image table) (size_in image table) bucket

-- an entry of the system page tells of a table that has this bucket
pub record TellsBucket (system : List ℕ) (table bucket : ℕ) : Type 0 where
  pub entry_number : ℕ
  pub named : (entry_in (dictionary system) entry_number).table ≡ table
  pub used : table ≢ 0
  pub counted : bucket < (entry_in (dictionary system) entry_number).buckets

-- a chain of a table that the dictionary tells of is broken on this page
pub record HasBrokenChain (image : Image) (table page : ℕ) : Type 0 where
  pub system : List ℕ
  pub there : page_of image 0 0 ≡ Some system
  pub bucket : ℕ
  pub tells : TellsBucket system table bucket
  pub broken : IsBrokenChain image table bucket page

-- Of the chains of the tables that a system page tells of, the first one that isn't whole is broken
-- on this page: tables go by their numbers, and the chains of a table by their buckets.
pub record BreaksFirst (image : Image) (system : List ℕ) (table page : ℕ) : Type 0 where
  pub bucket : ℕ
  pub tells : TellsBucket system table bucket
  pub broken : IsBrokenChain image table bucket page
  pub ahead : (other one : ℕ) → TellsBucket system other one
      → (other < table) ⊎ ((other ≡ table) × (one < bucket)) → IsWholeChain image other one

-- the same of the tables that the dictionary tells of
pub record IsFirstBrokenChain (image : Image) (table page : ℕ) : Type 0 where
  pub system : List ℕ
  pub there : page_of image 0 0 ≡ Some system
  pub first : BreaksFirst image system table page
