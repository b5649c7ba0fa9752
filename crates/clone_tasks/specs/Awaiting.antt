-- WHAT A TASK AWAITS: which answers fit where it stands.
use Rattle.std.specs.Prelude.{ℕ, ◌==◌, ◌&&◌, ◌||◌, not, Bool, true, false}
use Rattle.clone_chunk.specs.Stages.{copying, stage_number}
use Rattle.clone_chunk.specs.declared.stage.Stage.{Stage}
use Rattle.clone_chunk.specs.declared.stage.Stage.TheVariants as stage
use Rattle.clone_chunk.specs.declared.copy_stage.CopyStage.{CopyStage}
use Rattle.clone_chunk.specs.declared.copy_stage.CopyStage.TheVariants as copy
use Rattle.clone_wire.specs.declared.frame.Attempt.{Attempt}
use Rattle.clone_marks.specs.Blocks.{is_left}
use Rattle.clone_tasks.specs.declared.standing.Phase.{Phase}
use Rattle.clone_tasks.specs.declared.standing.Phase.TheVariants.{Opening, Copying, Done}
use Rattle.clone_tasks.specs.declared.standing.Standing.{Standing}
use Rattle.clone_tasks.specs.declared.standing.Standing.TheVariants.{Apart, Joining, Ready}
use Rattle.clone_tasks.specs.declared.standing.Standing.TheVariants.{Fetching, Served}
use Rattle.clone_tasks.specs.declared.standing.Standing.TheVariants.{Acknowledging}
use Rattle.clone_tasks.specs.Tables.{Table, standing_of, awaits_end, incarnation_of}

-- an answer is of this session in its present incarnation
abbrev pub is_present : Table → Attempt → Bool
is_present t attempt =
    (attempt.session == t.session) && (attempt.incarnation == incarnation_of t)

abbrev pub is_same : Stage → Stage → Bool
is_same a b = stage_number a == stage_number b

-- the recipient copies this stage
abbrev pub is_in : Phase → Stage → Bool
is_in Opening at = false
is_in (Copying present) at = is_same at (copying present)
is_in Done at = false

abbrev pub after_copy : CopyStage → Stage
after_copy copy.FileCopy = stage.PageCopy
after_copy copy.PageCopy = stage.RedoCopy
after_copy copy.RedoCopy = stage.Done

-- the stage after the recipient's; after all there is none, and the last answers
abbrev pub next_stage : Phase → Stage
next_stage Opening = stage.FileCopy
next_stage (Copying present) = after_copy present
next_stage Done = stage.Done

-- THE STAGE that a task awaits: after INIT that of FILE COPY, after REINIT or REINIT2 the
-- recipient's or the next one, after ACK the next one, and after ATTACH any
abbrev pub fits_stage : Standing → Phase → ℕ → Stage → Bool
fits_stage Apart phase task at = false
fits_stage Joining phase task at =
    not (task == 0) || is_same at (next_stage phase) || is_in phase at
fits_stage Ready phase task at = false
fits_stage Fetching phase task at = false
fits_stage Served phase task at = false
fits_stage Acknowledging phase task at = is_same at (next_stage phase)

abbrev pub awaits_stage : Table → ℕ → Stage → Bool
awaits_stage t task at = fits_stage (standing_of t task) t.phase task at

-- no STAGE was ever taken
abbrev pub is_opening : Phase → Bool
is_opening Opening = true
is_opening (Copying present) = false
is_opening Done = false

-- it moves the recipient after INIT and after ACK
abbrev pub moves_from : Standing → Phase → ℕ → Bool
moves_from Apart phase task = false
moves_from Joining phase task = (task == 0) && is_opening phase
moves_from Ready phase task = false
moves_from Fetching phase task = false
moves_from Served phase task = false
moves_from Acknowledging phase task = true

abbrev pub moves : Table → ℕ → Bool
moves t task = moves_from (standing_of t task) t.phase task

-- END of a stage is awaited of the recipient's stage alone
abbrev pub awaits_end_of : Table → ℕ → CopyStage → Bool
awaits_end_of t task at = awaits_end (standing_of t task) && is_in t.phase (copying at)

-- and until then blocks that weren't taken
abbrev pub awaits_block : Table → ℕ → CopyStage → ℕ → ℕ → Bool
awaits_block t task at chunk block = awaits_end_of t task at && is_left t.marks chunk block
