-- What of a disk stays while calls change some of it, and through a stop within them.
use Rattle.std.specs.Prelude.{ℕ, ◌≡◌, ◌≢◌, ◌⊎◌, List}
use Rattle.clone_outside.specs.Disk.{DiskImage, IsSameBut, page_count, page_of}
use Rattle.clone_outside.specs.Stops.{IsTornMark}

-- the mark, all other spaces, and the other pages of the space are as they were
pub record OnlyPage (space number : ℕ) (old new : DiskImage) : Type 0 where
  pub within : IsSameBut space old new
  pub count : page_count new space ≡ page_count old space
  pub others : (n : ℕ) → n ≢ number → page_of new space n ≡ page_of old space n

-- the spaces are as they were, and the mark was written or wasn't, or some of its bytes were
pub record OnlyMark (bytes : List ℕ) (old new : DiskImage) : Type 0 where
  pub spaces : new.spaces ≡ old.spaces
  pub mark : (new.mark ≡ old.mark) ⊎ IsTornMark bytes old.mark new.mark
