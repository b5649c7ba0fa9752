-- THE FRAME THAT TELLS AN ANSWER, by the call and the answer alone.
use Rattle.std.specs.Prelude.{ℕ, Bool, List, [], ◌∷◌, ◌++◌, Result, Ok, Err, None, Some}
use Rattle.std.specs.declared.option.Option.{Option}
use Rattle.clone_chunk.specs.Stages.{copy_numbered}
use Rattle.clone_chunk.specs.declared.cause.CloneCause.{CloneCause}
use Rattle.clone_chunk.specs.declared.cause.CloneCause.TheVariants.{ArchiveBehind}
use Rattle.clone_session.specs.declared.caller.Caller.{Caller}
use Rattle.clone_session.specs.declared.info.StageInfo.{StageInfo}
use Rattle.clone_session.specs.declared.refusal.CloneRefusal.{CloneRefusal}
use Rattle.clone_session.specs.declared.refusal.CloneRefusal.TheVariants.{Because, NoMemory}
use Rattle.clone_wire.specs.Stages.{page_numbered}
use Rattle.clone_wire.specs.declared.frame.Attempt.{Attempt}
use Rattle.clone_wire.specs.declared.frame.Frame.{Frame}
use Rattle.clone_wire.specs.declared.frame.Frame.TheVariants as frame
use Rattle.clone_calls.specs.declared.answer.DonorAnswer.{DonorAnswer}
use Rattle.clone_calls.specs.declared.answer.DonorAnswer.TheVariants as answer
use Rattle.clone_calls.specs.declared.block.Block.{Block}
use Rattle.clone_calls.specs.declared.block.Block.TheVariants as block
use Rattle.clone_calls.specs.declared.block.BlockRefusal.{BlockRefusal}
use Rattle.clone_calls.specs.declared.block.BlockRefusal.TheVariants.{Clone, Engine}
use Rattle.clone_calls.specs.declared.call.DonorCall.{DonorCall}
use Rattle.clone_calls.specs.declared.call.DonorCall.TheVariants as call

abbrev pub attempt_of : Caller → Attempt
attempt_of caller = record { session = caller.session; incarnation = caller.incarnation }

-- STAGE
abbrev pub stage_frame : StageInfo → Frame
stage_frame info =
    frame.Stage (record { session = info.session; incarnation = info.incarnation }) info.plan

-- END of a stage
abbrev pub end_frame : Caller → ℕ → Frame
end_frame caller stage = frame.End (attempt_of caller) (copy_numbered stage)

-- PAGES or REDO: a block of a chunk of a stage
abbrev pub block_frame : Caller → (stage chunk number : ℕ) → Block → Frame
block_frame caller stage chunk number (block.Pages pages) =
    frame.Pages (attempt_of caller) (page_numbered stage) chunk number pages
block_frame caller stage chunk number (block.Redo from bytes) =
    frame.Redo (attempt_of caller) chunk number from bytes

-- REFUSED, but out of memory isn't sent
abbrev pub refusal_told : CloneRefusal → Option Frame
refusal_told (Because why) = Some (frame.Refused why)
refusal_told NoMemory = None

abbrev pub stage_told : Result StageInfo CloneRefusal → Option Frame
stage_told (Ok info) = Some (stage_frame info)
stage_told (Err why) = refusal_told why

-- nothing is sent but a refusal
abbrev pub if_refused : {X : Type 0} → Result X CloneCause → Option Frame
if_refused (Ok x) = None
if_refused (Err why) = Some (frame.Refused why)

-- that no chunk is free
abbrev pub claim_told : DonorCall → Result (Option ℕ) CloneCause → Option Frame
claim_told (call.Claim caller stage) (Ok None) = Some (end_frame caller stage)
claim_told asked (Ok found) = None
claim_told asked (Err why) = Some (frame.Refused why)

-- a block that is still to be archived is no refusal
abbrev pub unread_told : BlockRefusal → Option Frame
unread_told (Clone (Because (ArchiveBehind archived until))) = None
unread_told (Clone why) = refusal_told why
unread_told (Engine why) = None

abbrev pub block_told : DonorCall → Result (Block × Bool) BlockRefusal → Option Frame
block_told (call.ReadBlock caller stage chunk number) (Ok given) =
    Some (block_frame caller stage chunk number given.0)
block_told asked (Ok given) = None
block_told asked (Err why) = unread_told why

-- THE FRAME of an answer, or none where nothing is sent
abbrev pub frame_for : DonorCall → DonorAnswer → Option Frame
frame_for asked (answer.Init stage) = stage_told stage
frame_for asked (answer.Attach stage) = stage_told stage
frame_for asked (answer.Reinit stage) = stage_told stage
frame_for asked (answer.ReinitBlocks stage) = stage_told stage
frame_for asked (answer.Ack stage) = stage_told stage
frame_for asked (answer.Kept mask) = if_refused mask
frame_for asked (answer.Execute done) = if_refused done
frame_for asked (answer.Exit done) = if_refused done
frame_for asked (answer.Claim chunk) = claim_told asked chunk
frame_for asked (answer.ReadBlock read) = block_told asked read
frame_for asked given = None

-- a call with its answer
abbrev pub Exchange : Type 0
Exchange = DonorCall × DonorAnswer

abbrev pub frames_of : Option Frame → List Frame
frames_of None = []
frames_of (Some sent) = sent ∷ []

-- the frames that tell the answers, in their order
abbrev pub frames_for : List Exchange → List Frame
frames_for [] = []
frames_for (exchange ∷ exchanges) =
    frames_of (frame_for exchange.0 exchange.1) ++ frames_for exchanges
