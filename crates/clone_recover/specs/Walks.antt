-- How the chains of a table are walked, bucket by bucket. Each page that a walk comes to gets the
-- stamp of its bucket, which is the bucket's number and one.
use Rattle.std.specs.Prelude.{ℕ, ◌≡◌, ◌≢◌, ◌<◌, ◌≤◌, List, length, get_or, None, Some}
use Rattle.std.specs.declared.option.Option.{Option}
use Rattle.std.specs.FinMap as finite
use Rattle.clone_outside.specs.Disk.{DiskImage, ForTold, GivesQuiet}
use Rattle.clone_row.specs.Chains.{behind}
use Rattle.clone_space.specs.Entries.{dictionary, entry_in}
use Rattle.clone_image.specs.Image.{Image}
use Rattle.clone_overlay.specs.Covers.{Cover}
use Rattle.clone_overlay.specs.Shown.{IsPage}
use Rattle.clone_recover.specs.Chains.{size_in, next_in, IsWhole, IsWholeChain, IsBrokenChain, TellsBucket}

-- The buckets ahead of this one were walked: a page has one of their stamps or none, and the chain
-- is whole that begins with a page that has one.
pub record IsStamped (next : ℕ → Option ℕ) (size bucket : ℕ) (stamps : List ℕ) : Type 0 where
  pub long : length stamps ≡ size
  pub low : (page : ℕ) → get_or stamps page 0 ≤ bucket
  pub whole : (page : ℕ) → get_or stamps page 0 ≢ 0 → IsWhole next size page

-- the same of the pages of a table
abbrev pub AreStamped : Image → ℕ → ℕ → List ℕ → Type 0
AreStamped image table bucket stamps =
    IsStamped (next_in image table) (size_in image table) bucket stamps

-- the chain of a bucket is broken on this page of its table
abbrev pub BreaksAt : ℕ → ℕ → Image → ℕ → ℕ → Type 0
BreaksAt table bucket image space page = (space ≡ table) × IsBrokenChain image table bucket page

-- the chains of the first buckets of a table, so many, are whole
abbrev pub AreWhole : Image → ℕ → ℕ → Type 0
AreWhole image table buckets =
    (bucket : ℕ) → bucket < buckets → IsWholeChain image table bucket

-- one of them is broken on this page, and those ahead of it are whole
pub record BreaksBelow (table buckets : ℕ) (image : Image) (space page : ℕ) : Type 0 where
  pub is : space ≡ table
  pub bucket : ℕ
  pub counted : bucket < buckets
  pub broken : IsBrokenChain image table bucket page
  pub ahead : AreWhole image table bucket

-- the chains of each table that a system page tells of are whole
abbrev pub AreAllWhole : Image → List ℕ → Type 0
AreAllWhole image system =
    (table bucket : ℕ) → TellsBucket system table bucket → IsWholeChain image table bucket

-- the disk gives a page that may stand at its place, and this is the page behind it
pub record ReadsBehind (told : Option DiskImage) (space number : ℕ) (next : Option ℕ) : Type 0 where
  pub page : List ℕ
  pub given : ForTold told (λ m. GivesQuiet m space number page)
  pub formed : IsPage space number page
  pub is : next ≡ behind page

-- the page behind a page, by the page that is held, or by an unused one, or by the disk's
pub data SeesBehind (told : Option DiskImage) (space number : ℕ) (cover : Cover)
    (next : Option ℕ) : Type 0 where
  held : (page : List ℕ) → finite.get cover.leaves number ≡ Some page → next ≡ behind page
      → SeesBehind told space number cover next
  unused : finite.get cover.leaves number ≡ None → cover.kept ≤ number → next ≡ None
      → SeesBehind told space number cover next
  read : finite.get cover.leaves number ≡ None → number < cover.kept
      → ReadsBehind told space number next → SeesBehind told space number cover next

-- no entry of a system page names a table above this one, or this is the least that one names
abbrev pub IsNextTable : List ℕ → ℕ → Option ℕ → Type 0
IsNextTable system above None =
    (entry_number : ℕ) → (entry_in (dictionary system) entry_number).table ≤ above
IsNextTable system above (Some table) =
    (above < table)
    × ((entry_number : ℕ) × ((entry_in (dictionary system) entry_number).table ≡ table))
    × ((entry_number : ℕ) → above < (entry_in (dictionary system) entry_number).table
    → table ≤ (entry_in (dictionary system) entry_number).table)

-- the buckets of a table, by all entries of a system page that name it, are so many
pub record HasBuckets (system : List ℕ) (table buckets : ℕ) : Type 0 where
  pub all : (bucket : ℕ) → TellsBucket system table bucket → bucket < buckets
  pub each : (bucket : ℕ) → bucket < buckets → TellsBucket system table bucket
