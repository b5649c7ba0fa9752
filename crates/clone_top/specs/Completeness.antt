-- WHERE `steps` ENDS WELL.
use Rattle.std.specs.Prelude.{ℕ, ◌≡◌, ◌≢◌, ◌≤◌, ◌⊎◌, List, length, true, Some, IfSome}
use Rattle.std.specs.declared.option.Option.{Option}
use Rattle.clone_outside.specs.Causes.{Rose}
use Rattle.clone_outside.specs.Disk.{blank}
use Rattle.clone_script.specs.Script.{IsFirstBad}
use Rattle.clone_script.specs.declared.read.TheConstants.{LONGEST_SCRIPT}
use Rattle.clone_events.specs.World.{Clone, IsHonest, over, spent}
use Rattle.clone_top.specs.Ends.{Disks, End, Ends, Streams}
use Rattle.clone_top.specs.Headline.{Run}
use Rattle.clone_top.specs.declared.status.Status.{Status}
use Rattle.clone_top.specs.declared.status.Status.TheVariants.{Done, Memory}

-- the source has a script that isn't too long, and of which no line is bad
pub record HasGoodScript (source : End) : Type 0 where
  pub script : List ℕ
  pub told : source.told ≡ Some script
  pub short : length script ≤ LONGEST_SCRIPT
  pub good : (number : ℕ) → IsFirstBad script number → ⊥

-- both disks tell that they hold no space and no mark
pub record HoldNothing (given : Disks) : Type 0 where
  pub donor : given.donor.told ≡ Some blank
  pub recipient : given.recipient.told ≡ Some blank

-- no count of the source, of a sink or of a disk rose
pub record NoneRose (old new : Streams) (given back : Disks) : Type 0 where
  pub source : Rose old.source.faults new.source.faults → ⊥
  pub out : Rose old.out.faults new.out.faults → ⊥
  pub binlog : Rose old.binlog.faults new.binlog.faults → ⊥
  pub donor : Rose given.donor.failures back.donor.failures → ⊥
  pub recipient : Rose given.recipient.failures back.recipient.failures → ⊥

-- Nobody but its tasks had a hand in the clone, no other session stood at the donor from its
-- beginning to its end, and no more of its connections were lost than the limit.
pub record GoesUndisturbed (clone : Clone) : Type 0 where
  pub honest : IsHonest clone
  pub alone : clone.alone ≡ true
  pub outlasted : (losses : ℕ) → clone.progress ≢ over (spent losses)

-- ALL OF THIS, as far as the lines came
pub record IsFavoured (run : Option Run) (old new : Streams) (given : Disks) (ends : Ends)
    : Type 0 where
  pub script : HasGoodScript old.source
  pub empty : HoldNothing given
  pub none : NoneRose old new given ends.disks
  pub clone : IfSome run (λ r. GoesUndisturbed r.final.clone)

-- all lines were carried out and all is written, or memory ran out
abbrev pub EndsWell : Status → Type 0
EndsWell status = (status ≡ Done) ⊎ (status ≡ Memory)
