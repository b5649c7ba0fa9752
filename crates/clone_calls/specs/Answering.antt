-- Which answers are those to a call, and what is in an answer.
use Rattle.std.specs.Prelude.{ℕ, ◌≡◌, ◌==◌, Bool, true, false, Result, None, Some, ⊤}
use Rattle.std.specs.Prelude.{IfSome, MatchResult}
use Rattle.std.specs.declared.alloc.AllocError.{AllocError}
use Rattle.std.specs.declared.option.Option.{Option}
use Rattle.clone_chunk.specs.declared.cause.CloneCause.{CloneCause}
use Rattle.clone_plain.specs.declared.refusal.Cause.TheVariants.{DiskFault}
use Rattle.clone_plain.specs.declared.refusal.EngineRefusal.TheVariants.{Because}
use Rattle.clone_session.specs.declared.info.StageInfo.{StageInfo}
use Rattle.clone_session.specs.declared.refusal.CloneRefusal.{CloneRefusal}
use Rattle.clone_calls.specs.declared.answer.DonorAnswer.{DonorAnswer}
use Rattle.clone_calls.specs.declared.answer.DonorAnswer.TheVariants as answer
use Rattle.clone_calls.specs.declared.block.Block.{Block}
use Rattle.clone_calls.specs.declared.block.Block.TheVariants as block
use Rattle.clone_calls.specs.declared.block.BlockRefusal.{BlockRefusal}
use Rattle.clone_calls.specs.declared.block.BlockRefusal.TheVariants.{Clone, Engine}
use Rattle.clone_calls.specs.declared.call.DonorCall.{DonorCall}
use Rattle.clone_calls.specs.declared.call.DonorCall.TheVariants as call

-- WHAT IS IN AN ANSWER, where it is one of its kind: the stage that the session has come to
abbrev pub stage_in : DonorAnswer → Option (Result StageInfo CloneRefusal)
stage_in (answer.Init told) = Some told
stage_in (answer.Attach told) = Some told
stage_in (answer.Reinit told) = Some told
stage_in (answer.ReinitBlocks told) = Some told
stage_in (answer.Ack told) = Some told
stage_in other = None

-- which blocks the requester has, as a mask
abbrev pub kept_in : DonorAnswer → Option (Result ℕ CloneCause)
kept_in (answer.Kept mask) = Some mask
kept_in other = None

-- that a claim would be carried out
abbrev pub execute_in : DonorAnswer → Option (Result ⊤ CloneCause)
execute_in (answer.Execute done) = Some done
execute_in other = None

-- a chunk, if one is free
abbrev pub claim_in : DonorAnswer → Option (Result (Option ℕ) CloneCause)
claim_in (answer.Claim chunk) = Some chunk
claim_in other = None

-- a block, and whether it is its chunk's last
abbrev pub block_in : DonorAnswer → Option (Result (Block × Bool) BlockRefusal)
block_in (answer.ReadBlock read) = Some read
block_in other = None

-- that the session is gone
abbrev pub exit_in : DonorAnswer → Option (Result ⊤ CloneCause)
exit_in (answer.Exit done) = Some done
exit_in other = None

-- up to where redo is archived
abbrev pub archive_in : DonorAnswer → Option (Result (Option ℕ) AllocError)
archive_in (answer.Archive reached) = Some reached
archive_in other = None

-- THE ANSWER IS OF THE CALL'S KIND.
abbrev pub answers : DonorCall → DonorAnswer → Bool
answers (call.Engine asked) (answer.Engine given) = true
answers (call.Init hello) (answer.Init told) = true
answers (call.Attach caller) (answer.Attach told) = true
answers (call.Reinit caller stage finished) (answer.Reinit told) = true
answers (call.ReinitBlocks caller stage taken) (answer.ReinitBlocks told) = true
answers (call.Kept caller stage chunk) (answer.Kept mask) = true
answers (call.Execute caller stage) (answer.Execute done) = true
answers (call.Claim caller stage) (answer.Claim chunk) = true
answers (call.ReadBlock caller stage chunk number) (answer.ReadBlock read) = true
answers (call.Ack caller stage floor) (answer.Ack told) = true
answers (call.Exit caller) (answer.Exit done) = true
answers (call.Abandon session) (answer.Abandon done) = true
answers (call.Archive limit) (answer.Archive reached) = true
answers asked given = false

-- whether a block is of redo, and not of pages
abbrev pub is_redo : Block → Bool
is_redo (block.Pages pages) = false
is_redo (block.Redo from bytes) = true

-- the clone has a cause against the block or no memory for it, or the disk failed
abbrev pub IsUnread : BlockRefusal → Type 0
IsUnread (Clone why) = ⊤
IsUnread (Engine why) = why ≡ Because DiskFault

-- A block is one of redo exactly in the copy of redo, which is the stage of number 3.
abbrev pub IsBlockIn : ℕ → Result (Block × Bool) BlockRefusal → Type 0
IsBlockIn stage read = MatchResult read (λ given. is_redo given.0 ≡ (stage == 3)) IsUnread

-- a block is answered in its stage
abbrev pub IsInStage : DonorCall → DonorAnswer → Type 0
IsInStage (call.ReadBlock caller stage chunk number) given =
    IfSome (block_in given) (IsBlockIn stage)
IsInStage asked given = ⊤

-- THE ANSWER IS ONE TO THE CALL. How many pages or bytes a block has, and how many spaces a stage
-- lists, their types keep.
pub record IsAnswerTo (asked : DonorCall) (given : DonorAnswer) : Type 0 where
  pub kind : answers asked given ≡ true
  pub block : IsInStage asked given
