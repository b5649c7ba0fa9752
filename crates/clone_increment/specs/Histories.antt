-- A disk that changes between copies, and the increments that are taken of it.
use Rattle.std.specs.Prelude.{ℕ, ◌≡◌, ◌+◌, false, List, [], ◌∷◌, Some, IsSome, unwrap_or, if◌then◌else◌}
use Rattle.std.specs.FinSet as set
use Rattle.clone_outside.specs.Disk.{DiskImage}
use Rattle.clone_page.specs.Header.{zero_page}
use Rattle.clone_increment.specs.Copies.{Copy, bytes_at}
use Rattle.clone_increment.specs.Increments.{Delta, applied}
use Rattle.clone_increment.specs.Tracked.{Changed, IsTaken}

-- What the disk holds changed only where that was noted: a page that wasn't written is as before.
-- It has zero bytes where it is new, or where its space was made.
abbrev pub ChangedOnly : Changed → DiskImage → DiskImage → Type 0
ChangedOnly changed old new =
    (place : ℕ × ℕ) → IsSome (bytes_at new place) → set.contains changed.written place ≡ false
    → bytes_at new place ≡ Some (if set.contains changed.made place.0 then zero_page
    else unwrap_or (bytes_at old place) zero_page)

-- what was noted up to an increment, the disk's image then, and the increment
pub record Round : Type 0 where
  pub changed : Changed
  pub image : DiskImage
  pub delta : Delta

-- increments that were taken in this order, from an image on
abbrev pub IsHistory : DiskImage → List Round → Type 0
IsHistory image [] = Unit {0}
IsHistory image (round ∷ rounds) =
    ChangedOnly round.changed image round.image
    × IsTaken round.changed round.image round.delta
    × IsHistory round.image rounds

-- the image at the last increment
abbrev pub last_image : DiskImage → List Round → DiskImage
last_image image [] = image
last_image image (round ∷ rounds) = last_image round.image rounds

-- a copy with all increments applied in order
abbrev pub all_applied : Copy → List Round → Copy
all_applied copy [] = copy
all_applied copy (round ∷ rounds) = all_applied (applied copy round.delta) rounds
