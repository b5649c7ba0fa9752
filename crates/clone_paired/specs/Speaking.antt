-- WHAT IS SAID between a donor and the tasks of a recipient in the present incarnation.
use Rattle.std.specs.Prelude.{ℕ, ◌≡◌, ◌<◌, ◌≤◌, ◌==◌, ◌⊎◌, List, None, Some, true, length, slice_index, ⊤}
use Rattle.std.specs.declared.option.Option.{Option}
use Rattle.clone_chunk.specs.Plans as plans
use Rattle.clone_chunk.specs.Stages.{stage_number}
use Rattle.clone_chunk.specs.declared.copy_stage.CopyStage.TheVariants.{PageCopy}
use Rattle.clone_chunk.specs.declared.plan.StagePlan.{StagePlan}
use Rattle.clone_chunk.specs.declared.plan.StagePlan.TheVariants as plan
use Rattle.clone_snapshot.specs.StageLists.{StageList, Files, Pages, Redo, Nothing}
use Rattle.clone_session.specs.Cloning.{Session}
use Rattle.clone_session.specs.CloneCauses.{donor_stage}
use Rattle.clone_marks.specs.Blocks.{blocks_of}
use Rattle.clone_marks.specs.Counts.{pairs_of}
use Rattle.clone_wire.specs.declared.frame.Frame.{Frame}
use Rattle.clone_wire.specs.declared.frame.Frame.TheVariants as frame
use Rattle.clone_tasks.specs.Sending.{IsFirst}
use Rattle.clone_tasks.specs.Tables.{Table, attempt_of}
use Rattle.clone_recipient.specs.Expecting.{fits, fits_pages, fits_redo}
use Rattle.clone_recipient.specs.Receptions.{Reception}

-- ---- commands

-- A COMMAND of a task that lies unread is the one with which the task would connect now, or a later
-- one. An acknowledgement of the copy of pages has the floor that is kept.
abbrev pub IsAsked : Table → ℕ → Frame → Type 0
IsAsked t task (frame.Execute stage) = ⊤
IsAsked t task (frame.Ack PageCopy floor) = t.floor ≡ Some floor
IsAsked t task (frame.Ack stage floor) = ⊤
IsAsked t task other = IsFirst (task == 0) t task other

-- ---- answers

-- a plan tells what a stage copies, as far as a recipient keeps it
abbrev pub Tells : StagePlan → StageList → Type 0
Tells (plan.FileCopy chunks spaces) list = list ≡ Files (pairs_of spaces)
Tells (plan.PageCopy chunks position spaces) list =
    (pages : List (ℕ × ℕ)) × (list ≡ Pages pages) × (position ≡ length pages)
Tells (plan.RedoCopy chunks checkpoint lsn position) list = list ≡ Redo checkpoint lsn
Tells (plan.Done checkpoint lsn position) list = list ≡ Nothing

-- where it is that of the stage to which the session has come, it tells what the session copies
abbrev pub TellsOf : Option Session → StagePlan → Type 0
TellsOf None plan = ⊤
TellsOf (Some s) plan = stage_number (plans.stage_of plan) ≡ donor_stage s → Tells plan s.snap.list

-- it is of no later stage than the session
abbrev pub IsReached : Option Session → StagePlan → Type 0
IsReached None plan = ⊤
IsReached (Some s) plan = stage_number (plans.stage_of plan) ≤ donor_stage s

-- the recipient's stage has such a block
abbrev pub HasBlock : Table → ℕ → ℕ → Type 0
HasBlock t chunk block = block < slice_index (blocks_of t.marks) chunk

-- AN ANSWER that lies unread is of the present incarnation, and it is none that the recipient would
-- find garbled for what it says.
abbrev pub IsGiven : Option Session → Reception → Frame → Type 0
IsGiven session r (frame.Stage attempt plan) =
    (attempt ≡ attempt_of r.table) × (fits plan ≡ true) × TellsOf session plan
    × IsReached session plan
IsGiven session r (frame.Pages attempt stage chunk block pages) =
    (attempt ≡ attempt_of r.table) × HasBlock r.table chunk block
    × (fits_pages stage r chunk block pages ≡ true)
IsGiven session r (frame.Redo attempt chunk block from bytes) =
    (attempt ≡ attempt_of r.table) × HasBlock r.table chunk block
    × (fits_redo r chunk block from bytes ≡ true)
IsGiven session r (frame.End attempt stage) = attempt ≡ attempt_of r.table
IsGiven session r other = ⊥
