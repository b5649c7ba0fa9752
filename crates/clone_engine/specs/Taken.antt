-- What a clone has taken of a donor: of each page the values from which redo may start, and the
-- donor at the stop.
use Rattle.std.specs.Prelude.{ℕ, ◌≡◌, ◌++◌, List, length, None, Some, IsTrue}
use Rattle.std.specs.declared.option.Option.{Option}
use Rattle.std.specs.Option.{ForSome}
use Rattle.clone_outside.specs.Disk.{ForTold}
use Rattle.clone_mtr.specs.declared.record.Record.{Record}
use Rattle.clone_law.specs.Since.{ends}
use Rattle.clone_contents.specs.Placed.{WasPlaced}
use Rattle.clone_buffer.specs.Buffered.{IsBuffer}
use Rattle.clone_buffer.specs.OnePage.{Copies, no_copies}
use Rattle.clone_archive.specs.Archived.{Archived}
use Rattle.clone_snapshot.specs.StageLists as lists
use Rattle.clone_snapshot.specs.StageLists.{StageList}
use Rattle.clone_session.specs.Cloning.{Cloning}
use Rattle.clone_engine.specs.Engine.{Engine, IsEngine, StandsBeside}
use Rattle.clone_engine.specs.Copies.{AreIdle, AreInFiles, AreInPages, AreStopped}
use Rattle.clone_engine.specs.Donor.{Donor, list_of}

pub record Taken : Type 0 where
  pub copies : Copies
  pub stop : Option Engine

-- nothing was taken
abbrev pub nothing : Taken
nothing = record { copies = no_copies; stop = None }

-- What was taken of a donor that has come to the stop. The donor was this one then, and its log has
-- only grown since.
pub record HasStopped (c : Cloning) (log : List (List Record)) (taken : Taken)
    (a : Archived) : Type 0 where
  pub at : Engine
  pub stop : taken.stop ≡ Some at
  pub engine : IsEngine at
  pub buffer : IsBuffer at.buffer
  pub right : IsTrue at.buffer.right
  pub placed : (space number : ℕ) → WasPlaced space number at.buffer.log
  pub copies : AreStopped a.start at.buffer.log taken.copies
  pub rest : List (List Record)
  pub grown : log ≡ at.buffer.log ++ rest
  -- the archive ends with the log of then, and the last stop has the position of then
  pub end : a.stop ≡ Some (ends at.buffer.log)
  pub position : ForSome c.stop (λ last. last.position ≡ length at.donor.binlog)

-- what was taken, by the stage that copies this list
abbrev pub IsTakenIn : Cloning → List (List Record) → Taken → StageList → Type 0
IsTakenIn c log taken (lists.Files spaces) = AreInFiles c.tracking.pages taken.copies
IsTakenIn c log taken (lists.Pages pages) =
    ForSome c.archive (λ a. AreInPages a.start taken.copies)
IsTakenIn c log taken (lists.Redo start end) = ForSome c.archive (HasStopped c log taken)
IsTakenIn c log taken lists.Nothing = ForSome c.archive (HasStopped c log taken)

abbrev pub IsTakenBy : Cloning → List (List Record) → Taken → Option StageList → Type 0
IsTakenBy c log taken None = AreIdle taken.copies
IsTakenBy c log taken (Some list) = IsTakenIn c log taken list

-- THIS WAS TAKEN of a donor over a disk that tells what it holds: what a clone has of each page
-- stands beside the pages, and is what the session's stage says.
pub record IsTaken (d : Donor) (taken : Taken) : Type 0 where
  pub stands : StandsBeside d.engine taken.copies
  pub stage : ForTold d.engine.disk.told
      (λ m. IsTakenBy d.cloning d.engine.buffer.log taken (list_of d.cloning))
