-- A DONOR AND A RECIPIENT, with all that is on its way between them.
use Rattle.std.specs.Prelude.{ℕ, ◌≡◌, ◌<◌, ◌^◌, ◌⊎◌, List, IsSome, Some, MatchOption}
use Rattle.std.specs.FinMap as finite
use Rattle.std.specs.List.{AllByRecursion}
use Rattle.std.specs.declared.option.Option.{Option}
use Rattle.clone_outside.specs.Disk.{DiskImage, ForTold}
use Rattle.clone_outside.specs.Mark.{mark_bytes}
use Rattle.clone_outside.specs.declared.mark.CloneEnd.{CloneEnd}
use Rattle.clone_outside.specs.declared.mark.Mark.TheVariants.{InProgress, Ending}
use Rattle.clone_model.specs.History.{fold}
use Rattle.clone_plain.specs.Donor.{history}
use Rattle.clone_session.specs.declared.info.Stop.{Stop}
use Rattle.clone_staged.specs.Holds.{HoldsCopy}
use Rattle.clone_accepted.specs.Answers.{Item}
use Rattle.clone_recipient.specs.Receptions.{Reception}
use Rattle.clone_recipient.specs.Record.{IsRecordOf}
use Rattle.clone_network.specs.Networks.{Network}
use Rattle.clone_engine.specs.Donor.{Donor}
use Rattle.clone_engine.specs.Engine.{Engine}
use Rattle.clone_sides.specs.Answered.{WereAnswered}
use Rattle.clone_sides.specs.Moment.{HasGoneOn, StopsAt}
use Rattle.clone_sides.specs.Trace.{Entry}
use Rattle.clone_joined.specs.Carried.{IsCarried}
use Rattle.clone_joined.specs.Runs.{HasFloor, HasRun}

-- the mark says that the copy of this session is in progress
abbrev pub IsInProgress : ℕ → DiskImage → Type 0
IsInProgress number m = m.mark ≡ Some (mark_bytes (InProgress number))

-- it says so still, or has the numbers of the end too
abbrev pub IsUnfinished : ℕ → DiskImage → Type 0
IsUnfinished number m =
    IsInProgress number m
    ⊎ ((end : CloneEnd) × (end.session ≡ number) × (m.mark ≡ Some (mark_bytes (Ending end))))

-- WHILE THE CLONE GOES ON: the donor has come by a run to where it is, the recipient accepted what
-- was answered in that run, over a disk without spaces whose copy is in progress, and each
-- connection carries what was answered and what the recipient's tasks may ask.
pub record IsJoined (number : ℕ) (stop : Option Stop) (d : Donor) (r : Reception)
    (told : Option DiskImage) (n : Network) : Type 0 where
  pub trace : List Entry
  pub run : HasRun number r.table.floor stop trace d
  pub items : List Item
  pub first : DiskImage
  pub blank : first.spaces ≡ finite.empty
  pub unfinished : IsInProgress number first
  pub accepted : IsRecordOf r items first told
  pub answered : WereAnswered number trace items
  pub session : r.table.session ≡ number
  pub bounded : r.position < 2 ^ 64
  pub carried : AllByRecursion (IsCarried number r.table.floor trace) n.connections

-- WHEN THE CLONE IS COMPLETE: in its run the session came to a first stop, at this position, which
-- isn't before the recipient's floor. It is the donor's last one. The donor has gone on since then.
-- Where the donor's disk tells what it holds, the recipient's disk recovers to the history at the
-- stop.
pub record IsCloned (number : ℕ) (stop : Option Stop) (d : Donor) (floor : Option ℕ)
    (told : Option DiskImage) (position : ℕ) : Type 0 where
  pub trace : List Entry
  pub run : HasRun number floor stop trace d
  pub at : Engine
  pub first : Stop
  pub is : stop ≡ Some first
  pub moment : StopsAt number run.start trace at first
  pub position_is : position ≡ first.position
  pub reached : HasFloor floor position
  pub last : d.cloning.stop ≡ Some first
  pub gone_on : HasGoneOn first at.donor d.engine.donor
  pub holds : IsSome d.engine.disk.told
      → ForTold told (λ m. HoldsCopy m (fold (history at.donor)) position)

-- the disk recovers to the donor's history at this stop
pub record HoldsAt (stop : Stop) (d : Donor) (m : DiskImage) : Type 0 where
  pub at : Engine
  pub gone_on : HasGoneOn stop at.donor d.engine.donor
  pub holds : HoldsCopy m (fold (history at.donor)) stop.position

-- HOWEVER THE CLONE ENDS, where both disks tell what they hold: the copy is unfinished, or it was
-- completed all the same.
abbrev pub IsLeft : ℕ → Option Stop → Donor → Option DiskImage → Type 0
IsLeft number stop d told = IsSome d.engine.disk.told → ForTold told
    (λ m. IsUnfinished number m ⊎ MatchOption stop ⊥ (λ first. HoldsAt first d m))
