-- WHAT FOLLOWS AN ANSWER of the donor: within an EXECUTE the next call, or else the step's end.
use Rattle.std.specs.Prelude.{ℕ, ◌+◌, ◌-◌, ◌/◌, ◌^◌, nat_lt, min, Bool, true, false}
use Rattle.std.specs.Prelude.{Result, Ok, Err, None, Some, option_map, if◌then◌else◌, ⊤}
use Rattle.std.specs.Int.{trailing_ones, w8}
use Rattle.std.specs.declared.alloc.AllocError.{AllocError}
use Rattle.std.specs.declared.option.Option.{Option}
use Rattle.clone_chunk.specs.Plans.{lsn_of, position_of, stage_of}
use Rattle.clone_chunk.specs.Stages.{copy_number, stage_number}
use Rattle.clone_chunk.specs.declared.cause.CloneCause.{CloneCause}
use Rattle.clone_chunk.specs.declared.cause.CloneCause.TheVariants.{ArchiveBehind}
use Rattle.clone_session.specs.declared.caller.Caller.{Caller}
use Rattle.clone_session.specs.declared.info.StageInfo.{StageInfo}
use Rattle.clone_session.specs.declared.refusal.CloneRefusal.{CloneRefusal}
use Rattle.clone_session.specs.declared.refusal.CloneRefusal.TheVariants.{Because, NoMemory}
use Rattle.clone_wire.specs.declared.frame.Frame.{Frame}
use Rattle.clone_wire.specs.declared.frame.Frame.TheVariants.{Refused}
use Rattle.clone_calls.specs.Answering.{archive_in, block_in, claim_in, execute_in, exit_in}
use Rattle.clone_calls.specs.Answering.{kept_in, stage_in}
use Rattle.clone_calls.specs.declared.answer.DonorAnswer.{DonorAnswer}
use Rattle.clone_calls.specs.declared.block.Block.{Block}
use Rattle.clone_calls.specs.declared.block.Block.TheVariants as block
use Rattle.clone_calls.specs.declared.block.BlockRefusal.{BlockRefusal}
use Rattle.clone_calls.specs.declared.block.BlockRefusal.TheVariants.{Clone, Engine}
use Rattle.clone_calls.specs.declared.call.DonorCall.{DonorCall}
use Rattle.clone_calls.specs.declared.call.DonorCall.TheVariants as call
use Rattle.clone_serve.specs.Telling.{block_frame, end_frame, stage_frame}
use Rattle.clone_serve.specs.declared.after.After.{After}
use Rattle.clone_serve.specs.declared.after.After.TheVariants.{Asks, Ends}
use Rattle.clone_serve.specs.declared.doing.Doing.{Doing}
use Rattle.clone_serve.specs.declared.doing.Doing.TheVariants.{Leaving, Over, Ready, Serving}
use Rattle.clone_serve.specs.declared.doing.Doing.TheVariants.{Starting, Telling}
use Rattle.clone_serve.specs.declared.doing.Execution.{Execution}
use Rattle.clone_serve.specs.declared.doing.Place.{Place}
use Rattle.clone_serve.specs.declared.doing.Work.{Work}
use Rattle.clone_serve.specs.declared.doing.Work.TheVariants.{Archive, Claim, Read, Weigh}
use Rattle.clone_serve.specs.declared.turn.ServeAnswer.{ServeAnswer}
use Rattle.clone_serve.specs.declared.turn.ServeAnswer.TheVariants as served

-- THE CALL by which an EXECUTE goes on
abbrev pub call_in : Execution → Work → DonorCall
call_in run Claim = call.Claim run.caller (copy_number run.stage)
call_in run (Weigh chunk) = call.Kept run.caller (copy_number run.stage) chunk
call_in run (Read place again) =
    call.ReadBlock run.caller (copy_number run.stage) place.chunk place.block
call_in run (Archive place limit) = call.Archive limit

-- the step ends with this
abbrev pub ended : Doing → ServeAnswer → After
ended next says = Ends next None says

-- a frame is sent before
abbrev pub sending : Doing → Frame → ServeAnswer → After
sending next sent says = Ends next (Some sent) says

-- A REFUSAL is sent and ends it.
abbrev pub refusing : CloneCause → After
refusing why = sending Over (Refused why) (served.Refused why)

abbrev pub failing : CloneRefusal → After
failing (Because why) = refusing why
failing NoMemory = ended Over served.NoMemory

-- A STAGE is sent.
abbrev pub told : Caller → Result StageInfo CloneRefusal → After
told caller (Ok info) = sending (Ready caller) (stage_frame info)
    (served.Answered (stage_number (stage_of info.plan)) (lsn_of info.plan)
    (position_of info.plan))
told caller (Err why) = failing why

-- AN EXECUTE is served from now on.
abbrev pub started : Execution → Result ⊤ CloneCause → After
started run (Ok x) = ended (Serving run Claim) served.Execute
started run (Err why) = refusing why

-- THE REQUESTER has left.
abbrev pub left : Result ⊤ CloneCause → After
left (Ok x) = ended Over served.Exit
left (Err why) = refusing why

-- A CHUNK IS CLAIMED, or none is free.
abbrev pub claimed : Execution → Result (Option ℕ) CloneCause → After
claimed run (Ok (Some chunk)) = Asks run (Weigh chunk)
claimed run (Ok None) =
    sending (Ready run.caller) (end_frame run.caller (copy_number run.stage)) served.SentEnd
claimed run (Err why) = refusing why

-- the first block from this one on whose bit isn't set, of the eight that a chunk may have
unfoldable pub next_block : ℕ → ℕ → ℕ
next_block kept from =
    if nat_lt from 8 then from + trailing_ones w8 (kept / 2 ^ from) else from

abbrev pub work_at : ℕ → ℕ → ℕ → Work
work_at chunk kept from =
    Read (record { chunk = chunk; kept = kept; block = next_block kept from }) false

-- THE BLOCKS that the requester has are known: the first of the others is read.
abbrev pub weighed : Execution → ℕ → Result ℕ CloneCause → After
weighed run chunk (Ok kept) = Asks run (work_at chunk kept 0)
weighed run chunk (Err why) = refusing why

-- after a block: the next one of its chunk, or another chunk
abbrev pub work_after : Place → Bool → Work
work_after place true = Claim
work_after place false = work_at place.chunk place.kept (min (place.block + 1) 255)

abbrev pub says_sent : ℕ → ℕ → Block → ServeAnswer
says_sent chunk number (block.Pages pages) = served.SentPages chunk number
says_sent chunk number (block.Redo from bytes) = served.SentRedo chunk number

-- redo that isn't archived yet is archived, once in a step
abbrev pub unarchived : Execution → Place → Bool → ℕ → After
unarchived run place true limit = ended (Serving run (Read place false)) served.Idle
unarchived run place false limit = Asks run (Archive place limit)

abbrev pub unread : Execution → Place → Bool → BlockRefusal → After
unread run place again (Clone (Because (ArchiveBehind archived until))) =
    unarchived run place again (until - archived)
unread run place again (Clone why) = failing why
unread run place again (Engine why) = ended Over served.DiskFault

-- A BLOCK IS READ and sent, or why it isn't read.
abbrev pub read : Execution → Place → Bool → Result (Block × Bool) BlockRefusal → After
read run place again (Ok given) = sending (Serving run (work_after place given.1))
    (block_frame run.caller (copy_number run.stage) place.chunk place.block given.0)
    (says_sent place.chunk place.block given.0)
read run place again (Err why) = unread run place again why

-- THE REDO of a block is archived, and the block is read again.
abbrev pub archived : Execution → Place → Result (Option ℕ) AllocError → After
archived run place (Ok reached) = Asks run (Read place true)
archived run place (Err e) = ended Over served.NoMemory

-- what follows within an EXECUTE
abbrev pub work_done : Execution → Work → DonorAnswer → Option After
work_done run Claim given = option_map (claimed run) (claim_in given)
work_done run (Weigh chunk) given = option_map (weighed run chunk) (kept_in given)
work_done run (Read place again) given = option_map (read run place again) (block_in given)
work_done run (Archive place limit) given = option_map (archived run place) (archive_in given)

-- WHAT FOLLOWS, which is nothing where the answer isn't one to what was asked
abbrev pub after : Doing → DonorAnswer → Option After
after (Telling caller) given = option_map (told caller) (stage_in given)
after (Starting run) given = option_map (started run) (execute_in given)
after Leaving given = option_map left (exit_in given)
after (Serving run work) given = work_done run work given
after other given = None
