-- The list of changes that a disk in memory keeps, and what it makes of them.
use Rattle.std.specs.Prelude.{ℕ, List, [], ◌∷◌, ◌++◌, fold}
use Rattle.std.specs.Option.{option_map_or}
use Rattle.clone_outside.specs.Disk.{DiskImage, blank}
use Rattle.clone_outside.specs.Stops.{Moments, noted, settled, then_at}
use Rattle.clone_memdisk.specs.Changes.{kept, change_of, with_laid}
use Rattle.clone_memdisk.specs.declared.change.Entry.{Entry}
use Rattle.clone_memdisk.specs.declared.change.TheConstants.{ALL}

-- changes that a sync or a stop ended, in their order, and what was kept of them
pub record Ended : Type 0 where
  pub changes : List Entry
  pub choice : ℕ

-- all changes of a disk: those that a sync or a stop ended, and those since
pub record Recorded : Type 0 where
  pub ended : List Ended
  pub since : List Entry

abbrev pub unchanged : Recorded
unchanged = record { ended = []; since = [] }

-- a change more
abbrev pub with_entry : Entry → Recorded → Recorded
with_entry x r = record r { since = r.since ++ x ∷ [] }

-- the changes since are ended, of which so much is kept
abbrev pub with_end : ℕ → Recorded → Recorded
with_end choice r = record {
  ended = r.ended ++ (record { changes = r.since; choice = choice }) ∷ [];
  since = [];
}

-- what a disk holds, with no write open, and what a stop may leave
pub record Lived : Type 0 where
  pub image : DiskImage
  pub moments : Moments

-- the image after what a stop with this choice keeps of a change
abbrev pub laid : ℕ → DiskImage → Entry → DiskImage
laid choice m x = option_map_or (λ y. with_laid y m) (kept choice x) m

abbrev pub changes_by : ℕ → Lived → Entry → Lived
changes_by choice l x =
    record { image = laid choice l.image x; moments = noted (change_of x) l.moments }

-- all that is held stays
abbrev pub settles : Lived → Lived
settles l = record l { moments = then_at (settled l.image) l.moments }

abbrev pub ends : Lived → Ended → Lived
ends l e = settles (fold (changes_by e.choice) l e.changes)

-- a disk before its first change
abbrev pub born : Lived
born = record { image = blank; moments = record { now = settled blank; before = [] } }

-- the disk at the last sync, or at the last stop after which it went on
abbrev pub ended_by : Recorded → Lived
ended_by r = fold ends born r.ended

-- the disk as a stop with this choice leaves it now
abbrev pub left_by : ℕ → Recorded → Lived
left_by choice r = fold (changes_by choice) (ended_by r) r.since

-- the same of the image alone
abbrev pub laid_all : DiskImage → Ended → DiskImage
laid_all m e = fold (laid e.choice) m e.changes

abbrev pub left_image : ℕ → Recorded → DiskImage
left_image choice r = fold (laid choice) (fold laid_all blank r.ended) r.since

-- the disk now
abbrev pub present : Recorded → Lived
present r = left_by ALL r

-- the list, and for how many changes more there is room
pub record Roomy : Type 0 where
  pub list : Recorded
  pub room : ℕ
