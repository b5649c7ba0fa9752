-- FRAMES AS COMMANDS AND ANSWERS of the rounds.
use Rattle.std.specs.Prelude.{ℕ, ◌≡◌, List, map, None, Some}
use Rattle.std.specs.declared.option.Option.{Option}
use Rattle.clone_chunk.specs.Plans.{stage_of}
use Rattle.clone_chunk.specs.Stages.{copy_number, stage_number}
use Rattle.clone_wire.specs.Stages.{page_number}
use Rattle.clone_wire.specs.declared.frame.Frame.{Frame}
use Rattle.clone_wire.specs.declared.frame.Frame.TheVariants as frame
use Rattle.clone_rounds.specs.World.{Command, First, Execute, Acknowledge}
use Rattle.clone_rounds.specs.World.{Answer, Stage, Block, End}
use Rattle.clone_view.specs.Rows.{place_of}

-- EXIT ends the clone, and is no command of one that goes on.
abbrev pub command_of : Frame → Option Command
command_of (frame.Init attempt version size compressed tasks) = Some First
command_of (frame.Attach attempt task) = Some First
command_of (frame.Reinit attempt stage finished) = Some First
command_of (frame.Reinit2 attempt stage taken) = Some First
command_of (frame.Execute stage) = Some (Execute (copy_number stage))
command_of (frame.Ack stage floor) = Some (Acknowledge (copy_number stage))
command_of other = None

-- A block is named by its place in the row of its stage, by how many blocks the chunks of each
-- stage have. REFUSED ends the clone.
abbrev pub answer_of : (ℕ → List ℕ) → Frame → Option Answer
answer_of counts (frame.Stage attempt plan) = Some (Stage (stage_number (stage_of plan)))
answer_of counts (frame.Pages attempt stage chunk block pages) =
    Some (Block (page_number stage) (place_of (counts (page_number stage)) chunk block))
answer_of counts (frame.Redo attempt chunk block from bytes) =
    Some (Block 3 (place_of (counts 3) chunk block))
answer_of counts (frame.End attempt stage) = Some (End (copy_number stage))
answer_of counts other = None

-- each frame is one of these
abbrev pub AreCommands : List Frame → List Command → Type 0
AreCommands frames commands = map command_of frames ≡ map Some commands

-- and each of these
abbrev pub AreAnswers : (ℕ → List ℕ) → List Frame → List Answer → Type 0
AreAnswers counts frames answers = map (answer_of counts) frames ≡ map Some answers
