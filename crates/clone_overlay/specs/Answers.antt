-- What a read of a page leaves.
use Rattle.std.specs.Prelude.{ℕ, ◌≡◌, ◌<◌, ◌≤◌, List, IsSome, None, Some}
use Rattle.std.specs.declared.option.Option.{Option}
use Rattle.std.specs.FinMap as finite
use Rattle.clone_page.specs.Header.{zero_page}
use Rattle.clone_outside.specs.Disk.{DiskImage, ForTold, GivesQuiet}
use Rattle.clone_overlay.specs.Covers.{Cover, Overlay, holding}
use Rattle.clone_overlay.specs.Shown.{IsPage}

-- The page is held already or isn't there, or it is held now as the disk gives it, or as an unused
-- one.
pub data Fetched (told : Option DiskImage) (space number : ℕ) (old new : Cover) : Type 0 where
  stays : (number < old.count → IsSome (finite.get old.leaves number)) → new ≡ old
      → Fetched told space number old new
  reads : (page : List ℕ) → number < old.kept → number < old.count
      → finite.get old.leaves number ≡ None → ForTold told (λ m. GivesQuiet m space number page)
      → new ≡ holding number page old → Fetched told space number old new
  fills : old.kept ≤ number → number < old.count → finite.get old.leaves number ≡ None
      → new ≡ holding number zero_page old → Fetched told space number old new

-- the disk gives bytes that may not stand at this place
pub record GivesAgainst (told : Option DiskImage) (space number : ℕ) : Type 0 where
  pub page : List ℕ
  pub given : ForTold told (λ m. GivesQuiet m space number page)
  pub against : IsPage space number page → ⊥

-- as GivesAgainst, for a page of the disk that counts and isn't held
pub record GivesMisplaced (told : Option DiskImage) (space number : ℕ)
    (cover : Cover) : Type 0 where
  pub kept : number < cover.kept
  pub within : number < cover.count
  pub free : finite.get cover.leaves number ≡ None
  pub gives : GivesAgainst told space number

-- as Fetched, for the cover of the space, if the space is there
pub data FetchedIn (told : Option DiskImage) (space number : ℕ) (old new : Overlay) : Type 0 where
  nowhere : finite.get old space ≡ None → new ≡ old → FetchedIn told space number old new
  within : (before after : Cover) → finite.get old space ≡ Some before
      → Fetched told space number before after → new ≡ finite.insert old space after
      → FetchedIn told space number old new

-- the space is there, and the disk gives bytes that may not stand at this place of it
pub record HasMisplaced (told : Option DiskImage) (space number : ℕ)
    (overlay : Overlay) : Type 0 where
  pub cover : Cover
  pub there : finite.get overlay space ≡ Some cover
  pub gives : GivesMisplaced told space number cover
