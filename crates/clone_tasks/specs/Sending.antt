-- WHAT A TASK SENDS by its rule, and where it stands then.
use Rattle.std.specs.Prelude.{ℕ, ◌≡◌, ◌==◌, Bool, true, false, None, Some, length, take}
use Rattle.std.specs.declared.option.Option.{Option}
use Rattle.std.specs.Option.{unwrap_or}
use Rattle.clone_base.specs.declared.limits.TheConstants.{PAGE_SIZE}
use Rattle.clone_chunk.specs.Bitmaps.{Bits}
use Rattle.clone_chunk.specs.Chunks.{has_bit}
use Rattle.clone_chunk.specs.Partials.{Taken}
use Rattle.clone_chunk.specs.declared.partials.TheConstants.{MOST_PARTIAL}
use Rattle.clone_chunk.specs.declared.copy_stage.CopyStage.{CopyStage}
use Rattle.clone_chunk.specs.declared.copy_stage.CopyStage.TheVariants.{FileCopy, PageCopy}
use Rattle.clone_chunk.specs.declared.copy_stage.CopyStage.TheVariants.{RedoCopy}
use Rattle.clone_wire.specs.declared.frame.Frame.{Frame}
use Rattle.clone_wire.specs.declared.frame.Frame.TheVariants.{Init, Attach, Reinit, Reinit2}
use Rattle.clone_wire.specs.declared.frame.Frame.TheVariants.{Execute, Ack, Exit}
use Rattle.clone_marks.specs.Blocks.{is_finished_at, partials_of}
use Rattle.clone_tasks.specs.declared.rule.Rule.{Rule}
use Rattle.clone_tasks.specs.declared.rule.Rule.TheVariants as rule
use Rattle.clone_tasks.specs.declared.standing.Phase.{Phase}
use Rattle.clone_tasks.specs.declared.standing.Phase.TheVariants.{Opening, Copying, Done}
use Rattle.clone_tasks.specs.declared.standing.Standing.TheVariants.{Joining, Fetching}
use Rattle.clone_tasks.specs.declared.standing.Standing.TheVariants.{Acknowledging}
use Rattle.clone_tasks.specs.Tables.{Table, attempt_of, with_standing}

-- ---- the frame

-- a bit for each chunk of the stage, which is set where the chunk is finished
pub record ShowsFinished (t : Table) (bits : Bits) : Type 0 where
  pub chunks : bits.count ≡ length t.marks
  pub each : (i : ℕ) → has_bit bits.bytes i ≡ is_finished_at t.marks i

-- and the first of the chunks of which some blocks were taken
pub record ShowsTaken (t : Table) (taken : Taken) : Type 0 where
  pub finished : ShowsFinished t taken.finished
  pub partials : taken.partials ≡ take MOST_PARTIAL (partials_of t.marks)

-- task 0 comes back to the session in a stage: REINIT in version 1, and else REINIT2
abbrev pub Reattaches : Bool → CopyStage → Table → Frame → Type 0
Reattaches true stage t frame =
    (bits : Bits) × (frame ≡ Reinit (attempt_of t) stage bits) × ShowsFinished t bits
Reattaches false stage t frame =
    (taken : Taken) × (frame ≡ Reinit2 (attempt_of t) stage taken) × ShowsTaken t taken

-- it opens the session where no STAGE was ever taken
abbrev pub Opens : Phase → Table → Frame → Type 0
Opens Opening t frame = frame ≡ Init (attempt_of t) t.version PAGE_SIZE false t.count
Opens (Copying stage) t frame = Reattaches (t.version == 1) stage t frame
Opens Done t frame = frame ≡ Init (attempt_of t) t.version PAGE_SIZE false t.count

-- the command with which a task connects
abbrev pub IsFirst : Bool → Table → ℕ → Frame → Type 0
IsFirst true t task frame = Opens t.phase t frame
IsFirst false t task frame = frame ≡ Attach (attempt_of t) task

-- a repeated acknowledgement of PAGE COPY carries the floor of the first
abbrev pub sent_floor : CopyStage → Option ℕ → ℕ → ℕ
sent_floor FileCopy kept floor = floor
sent_floor PageCopy kept floor = unwrap_or kept floor
sent_floor RedoCopy kept floor = floor

abbrev pub kept_floor : CopyStage → Option ℕ → ℕ → Option ℕ
kept_floor FileCopy kept floor = kept
kept_floor PageCopy kept floor = Some (unwrap_or kept floor)
kept_floor RedoCopy kept floor = kept

-- THE FRAME
abbrev pub IsSent : Rule → Table → ℕ → ℕ → Frame → Type 0
IsSent rule.Nothing t task floor frame = ⊥
IsSent rule.Stale t task floor frame = ⊥
IsSent rule.Receive t task floor frame = ⊥
IsSent rule.Connect t task floor frame = IsFirst (task == 0) t task frame
IsSent (rule.Acknowledge stage) t task floor frame =
    frame ≡ Ack stage (sent_floor stage t.floor floor)
IsSent (rule.Execute stage) t task floor frame = frame ≡ Execute stage
IsSent rule.Complete t task floor frame = frame ≡ Exit

abbrev pub sends : Rule → Bool
sends rule.Nothing = false
sends rule.Stale = false
sends rule.Receive = false
sends rule.Connect = true
sends (rule.Acknowledge stage) = true
sends (rule.Execute stage) = true
sends rule.Complete = true

-- a frame exactly where the rule sends one
abbrev pub Sends : Rule → Table → ℕ → ℕ → Option Frame → Type 0
Sends rule t task floor None = sends rule ≡ false
Sends rule t task floor (Some frame) = IsSent rule t task floor frame

-- ---- the table

abbrev pub after_sending : Rule → Table → ℕ → ℕ → Table
after_sending rule.Nothing t task floor = t
after_sending rule.Stale t task floor = t
after_sending rule.Receive t task floor = t
after_sending rule.Connect t task floor = with_standing t task Joining
after_sending (rule.Acknowledge stage) t task floor =
    record (with_standing t task Acknowledging) { floor = kept_floor stage t.floor floor }
after_sending (rule.Execute stage) t task floor = with_standing t task Fetching
after_sending rule.Complete t task floor = t
