-- What is noted of the calls of a disk, one after the other.
use Rattle.std.specs.Prelude.{ℕ, zero, suc, ◌≡◌, false, None, Some, IsSome, IsSomeAnd, ⊤}
use Rattle.std.specs.declared.option.Option.{Option}
use Rattle.std.specs.FinSet as set
use Rattle.clone_outside.specs.Disk.{DiskImage}
use Rattle.clone_increment.specs.Copies.{bytes_at}
use Rattle.clone_increment.specs.Histories.{ChangedOnly}
use Rattle.clone_increment.specs.Tracked.{Changed, with_written}

-- the first pages of a space were written, each of which is noted
abbrev pub with_first_written : Changed → ℕ → ℕ → Changed
with_first_written changed space zero = changed
with_first_written changed space (suc number) =
    with_written (with_first_written changed space number) (space, number)

-- a fact about what the disk held and what it holds, where that is told
abbrev pub ForBothTold : (DiskImage → DiskImage → Type 0) → Option DiskImage → Option DiskImage
    → Type 0
ForBothTold P None new = ⊤
ForBothTold P (Some old) new = IsSomeAnd new (P old)

-- a page that is there was there, unless it was noted
abbrev pub NoneAppears : Changed → DiskImage → DiskImage → Type 0
NoneAppears changed old new =
    (place : ℕ × ℕ) → IsSome (bytes_at new place) → set.contains changed.written place ≡ false
    → set.contains changed.made place.0 ≡ false → IsSome (bytes_at old place)

-- What changed was noted, and no page appears that wasn't.
pub record IsNoted (changed : Changed) (old new : DiskImage) : Type 0 where
  pub only : ChangedOnly changed old new
  pub none_new : NoneAppears changed old new

-- what was noted first, and what was noted after it
abbrev pub both : Changed → Changed → Changed
both first second = record {
  written = set.union first.written second.written;
  made = set.union first.made second.made;
}

-- No page comes back that was there at first and then was gone, unless it was noted.
abbrev pub NoneReturns : Changed → DiskImage → DiskImage → DiskImage → Type 0
NoneReturns changed old mid new =
    (place : ℕ × ℕ) → IsSome (bytes_at old place) → IsSome (bytes_at new place)
    → set.contains changed.written place ≡ false → set.contains changed.made place.0 ≡ false
    → IsSome (bytes_at mid place)
