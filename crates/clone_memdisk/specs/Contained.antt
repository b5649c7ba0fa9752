-- What a disk in memory holds, and the list of its changes, where it keeps one.
use Rattle.std.specs.Prelude.{◌≡◌, ◌+◌, ◌≤◌, ℕ, None, Some, option_map, IfSome}
use Rattle.std.specs.declared.option.Option.{Option}
use Rattle.std.specs.FinMap as finite
use Rattle.clone_outside.specs.Disk.{DiskImage, page_count}
use Rattle.clone_outside.specs.Stops.{Moments, IsClosed}
use Rattle.clone_memdisk.specs.Changes.{with_change}
use Rattle.clone_memdisk.specs.Recorded.{Recorded, Roomy, present, left_image, with_end, with_entry}
use Rattle.clone_memdisk.specs.declared.change.Entry.{Entry}
use Rattle.clone_memdisk.specs.declared.change.Entry.TheVariants.{Remove}
use Rattle.clone_memdisk.specs.declared.change.TheConstants.{ALL}

-- what is held, and the changes that made it, where a list of them is kept
pub record Contained : Type 0 where
  pub image : DiskImage
  pub list : Option Recorded

-- what a stop may leave, where a list of changes is kept
abbrev pub moments_of : Option Recorded → Option Moments
moments_of list = option_map (λ r. (present r).moments) list

-- the list makes what is held, with no write open
abbrev pub IsTied : Contained → Type 0
IsTied c = IfSome c.list (λ r. IsClosed c.image (present r).image)

-- and there is room in it for the removal of each space
pub record IsKeptList (image : DiskImage) (r : Roomy) : Type 0 where
  pub makes : IsClosed image (present r.list).image
  pub room : finite.len image.spaces ≤ r.room

abbrev pub IsKept : DiskImage → Option Roomy → Type 0
IsKept image list = IfSome list (IsKeptList image)

-- there is room for so many changes more
abbrev pub HasRoom : ℕ → Option Roomy → Type 0
HasRoom room list = IfSome list (λ r. room ≤ r.room)

-- the list is the same, with no less room
abbrev pub KeepsList : Option Roomy → Option Roomy → Type 0
KeepsList None new = new ≡ None
KeepsList (Some old) new = (r : Roomy) × (new ≡ Some r) × (r.list ≡ old.list) × (old.room ≤ r.room)

-- a change was noted, for which there was room
abbrev pub Notes : Entry → Option Roomy → Option Roomy → Type 0
Notes x None new = new ≡ None
Notes x (Some old) new =
    (r : Roomy) × (new ≡ Some r) × (r.list ≡ with_entry x old.list) × (r.room + 1 ≡ old.room)

-- a change was made, and is kept
abbrev pub changed_by : Entry → Contained → Contained
changed_by x c =
    record { image = with_change x c.image; list = option_map (with_entry x) c.list }

-- the removal of a space that has so many pages is kept, or it isn't there and all is as it was
abbrev pub RemovedWith : Option ℕ → ℕ → Contained → Contained → Type 0
RemovedWith None space old new = new ≡ old
RemovedWith (Some count) space old new = new ≡ changed_by (Remove space) old

abbrev pub IsRemoved : ℕ → Contained → Contained → Type 0
IsRemoved space old new = RemovedWith (page_count old.image space) space old new

-- all that is held stays
abbrev pub synced : Contained → Contained
synced c = record c { list = option_map (with_end ALL) c.list }

-- what a stop with this choice leaves, where a list is kept
abbrev pub left_in : ℕ → DiskImage → Option Recorded → DiskImage
left_in choice image None = image
left_in choice image (Some r) = left_image choice r

abbrev pub stopped : ℕ → Contained → Contained
stopped choice c =
    record {
      image = left_in choice c.image c.list;
      list = option_map (with_end choice) c.list;
    }
