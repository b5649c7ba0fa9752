-- The spelling of each frame: its code, the length of its payload, and the fields of the payload
-- one after the other. Numbers are big-endian.
use Rattle.std.specs.Prelude.{ℕ, Bool, List, [], ◌++◌, length, if◌then◌else◌}
use Rattle.std.specs.List.{flat_map}
use Rattle.byteorder.specs.Endian.{big_bytes}
use Rattle.clone_wire.specs.declared.frame.Attempt.{Attempt}
use Rattle.clone_wire.specs.declared.frame.Side.{Side}
use Rattle.clone_wire.specs.declared.frame.Side.TheVariants.{Command, Answer}
use Rattle.clone_wire.specs.declared.frame.Frame.{Frame}
use Rattle.clone_wire.specs.declared.frame.Frame.TheVariants.{Init, Attach, Reinit, Reinit2}
use Rattle.clone_wire.specs.declared.frame.Frame.TheVariants.{Execute, Ack, Exit, Stage, Pages}
use Rattle.clone_wire.specs.declared.frame.Frame.TheVariants.{Redo, End, Refused}
use Rattle.clone_chunk.specs.declared.plan.StagePlan.{StagePlan}
use Rattle.clone_chunk.specs.declared.spaces.SpaceSize.{SpaceSize}
use Rattle.clone_page.specs.declared.pages.PageAt.{PageAt}
use Rattle.clone_chunk.specs.declared.partials.PartialChunk.{PartialChunk}
use Rattle.clone_chunk.specs.Partials.{Taken}
use Rattle.clone_chunk.specs.Stages.{stage_number, copy_number}
use Rattle.clone_wire.specs.Stages.{page_number}
use Rattle.clone_chunk.specs.declared.cause.CloneCause.{CloneCause}
use Rattle.clone_chunk.specs.Causes.{cause_number, cause_first, cause_second}
use Rattle.clone_chunk.specs.Plans.{stage_of, chunks_of, checkpoint_of, lsn_of, position_of}
use Rattle.clone_chunk.specs.Plans.{spaces_of}

-- the side that sends a frame
abbrev pub side_of : Frame → Side
side_of (Init attempt version size compressed tasks) = Command
side_of (Attach attempt task) = Command
side_of (Reinit attempt stage finished) = Command
side_of (Reinit2 attempt stage taken) = Command
side_of (Execute stage) = Command
side_of (Ack stage floor) = Command
side_of Exit = Command
side_of (Stage attempt plan) = Answer
side_of (Pages attempt stage chunk block pages) = Answer
side_of (Redo attempt chunk block from bytes) = Answer
side_of (End attempt stage) = Answer
side_of (Refused cause) = Answer

abbrev pub code_of : Frame → ℕ
code_of (Init attempt version size compressed tasks) = 1
code_of (Attach attempt task) = 2
code_of (Reinit attempt stage finished) = 3
code_of (Execute stage) = 4
code_of (Ack stage floor) = 5
code_of Exit = 6
code_of (Reinit2 attempt stage taken) = 7
code_of (Stage attempt plan) = 16
code_of (Pages attempt stage chunk block pages) = 17
code_of (Redo attempt chunk block from bytes) = 18
code_of (End attempt stage) = 19
code_of (Refused cause) = 20

abbrev pub flag : Bool → ℕ
flag set = if set then 1 else 0

abbrev pub attempt_bytes : Attempt → List ℕ
attempt_bytes attempt = big_bytes 8 attempt.session ++ big_bytes 4 attempt.incarnation

abbrev pub space_bytes : SpaceSize → List ℕ
space_bytes space = big_bytes 4 space.space ++ big_bytes 4 space.pages

abbrev pub page_bytes : PageAt → List ℕ
page_bytes page = big_bytes 4 page.space ++ big_bytes 4 page.number ++ page.page

abbrev pub partial_bytes : PartialChunk → List ℕ
partial_bytes partial = big_bytes 4 partial.chunk ++ big_bytes 1 partial.mask

-- their number, and they
abbrev pub listed_bytes : List PartialChunk → List ℕ
listed_bytes partials = big_bytes 4 (length partials) ++ flat_map partial_bytes partials

abbrev pub taken_bytes : Taken → List ℕ
taken_bytes taken =
    big_bytes 4 taken.finished.count ++ taken.finished.bytes ++ listed_bytes taken.partials

abbrev pub cause_bytes : CloneCause → List ℕ
cause_bytes cause =
    big_bytes 1 (cause_number cause) ++ big_bytes 8 (cause_first cause)
    ++ big_bytes 8 (cause_second cause)

unfoldable pub plan_bytes : StagePlan → List ℕ
plan_bytes plan =
    big_bytes 1 (stage_number (stage_of plan)) ++ big_bytes 4 (chunks_of plan)
    ++ big_bytes 8 (checkpoint_of plan) ++ big_bytes 8 (lsn_of plan)
    ++ big_bytes 8 (position_of plan)
    ++ big_bytes 2 (length (spaces_of plan)) ++ flat_map space_bytes (spaces_of plan)

abbrev pub payload : Frame → List ℕ
payload (Init attempt version size compressed tasks) = big_bytes 2 version ++ big_bytes 4 size
    ++ big_bytes 1 (flag compressed) ++ big_bytes 1 tasks ++ attempt_bytes attempt
payload (Attach attempt task) = attempt_bytes attempt ++ big_bytes 1 task
payload (Reinit attempt stage finished) = attempt_bytes attempt ++ big_bytes 1 (copy_number stage)
    ++ big_bytes 4 finished.count ++ finished.bytes
payload (Reinit2 attempt stage taken) = attempt_bytes attempt ++ big_bytes 1 (copy_number stage)
    ++ taken_bytes taken
payload (Execute stage) = big_bytes 1 (copy_number stage)
payload (Ack stage floor) = big_bytes 1 (copy_number stage) ++ big_bytes 8 floor
payload Exit = []
payload (Stage attempt plan) = attempt_bytes attempt ++ plan_bytes plan
payload (Pages attempt stage chunk block pages) =
    attempt_bytes attempt ++ big_bytes 1 (page_number stage) ++ big_bytes 4 chunk
    ++ big_bytes 1 block ++ big_bytes 1 (length pages) ++ flat_map page_bytes pages
payload (Redo attempt chunk block from bytes) =
    attempt_bytes attempt ++ big_bytes 1 3 ++ big_bytes 4 chunk ++ big_bytes 1 block
    ++ big_bytes 8 from ++ big_bytes 4 (length bytes) ++ bytes
payload (End attempt stage) = attempt_bytes attempt ++ big_bytes 1 (copy_number stage)
payload (Refused cause) = cause_bytes cause

unfoldable pub spelling : Frame → List ℕ
spelling frame = big_bytes 1 (code_of frame) ++ big_bytes 4 (length (payload frame))
    ++ payload frame
