-- A STEP of a task, by the rule that applies: what is taken and put out, what changes, and the
-- answer.
use Rattle.std.specs.Prelude.{ℕ, ◌≡◌, Bool, true, false, List, ◌++◌, None, Some}
use Rattle.std.specs.Prelude.{if◌then◌else◌}
use Rattle.std.specs.declared.option.Option.{Option}
use Rattle.clone_outside.specs.Disk.{DiskImage, ForTold, Steps}
use Rattle.clone_outside.specs.DiskCalls.{DiskState}
use Rattle.clone_outside.specs.declared.mark.CloneEnd as mark
use Rattle.clone_outside.specs.declared.mark.Mark.TheVariants.{Complete}
use Rattle.clone_lay.specs.Copying.{IsCompleting}
use Rattle.clone_lay.specs.Marked.{marked}
use Rattle.clone_lay.specs.Sized.{AreSizes}
use Rattle.clone_chunk.specs.declared.cause.CloneCause.{CloneCause}
use Rattle.clone_chunk.specs.declared.copy_stage.CopyStage.{CopyStage}
use Rattle.clone_wire.specs.declared.frame.Side.TheVariants.{Answer, Command}
use Rattle.clone_wire.specs.declared.frame.Frame.{Frame}
use Rattle.clone_wire.specs.declared.frame.Frame.TheVariants as frame
use Rattle.clone_wire.specs.Answers.{IsLost}
use Rattle.clone_wire.specs.Spelling.{code_of, spelling}
use Rattle.clone_stream.specs.Streams.{IsFrameOf}
use Rattle.clone_stream.specs.Taking.{IsKept, IsPartial}
use Rattle.clone_tasks.specs.declared.end.CloneEnd.{CloneEnd}
use Rattle.clone_tasks.specs.declared.end.CloneEnd.TheVariants as end
use Rattle.clone_tasks.specs.declared.rule.Link.{Link}
use Rattle.clone_tasks.specs.declared.rule.Link.TheVariants as link
use Rattle.clone_tasks.specs.declared.rule.Rule.{Rule}
use Rattle.clone_tasks.specs.declared.rule.Rule.TheVariants as rule
use Rattle.clone_tasks.specs.Losing.{after_loss, counted_table, is_spent}
use Rattle.clone_tasks.specs.Sending.{IsSent, after_sending}
use Rattle.clone_tasks.specs.Tables.{Table, is_running}
use Rattle.clone_recipient.specs.Expecting.{is_expected}
use Rattle.clone_recipient.specs.Receptions.{Reception}
use Rattle.clone_recipient.specs.Showing.{IsEndOf}
use Rattle.clone_recipient.specs.Taking.{KeepsMark, Takes, took_of}
use Rattle.clone_fetch.specs.declared.answer.TaskAnswer.{TaskAnswer}
use Rattle.clone_fetch.specs.declared.answer.TaskAnswer.TheVariants as says

-- the clone ends so
abbrev pub ended_as : CloneEnd → Reception → Reception
ended_as how r = record r { table = record r.table { ended = Some how } }

-- the task stands as one that has sent the frame of the rule
abbrev pub with_sent : Rule → ℕ → ℕ → Reception → Reception
with_sent which task floor r = record r { table = after_sending which r.table task floor }

-- while the clone goes on, the recipient knows the sizes of the spaces of its disk
abbrev pub KnowsSizes : Reception → DiskState → Type 0
KnowsSizes r disk = is_running r.table ≡ true → ForTold disk.told (AreSizes r.sizes)

-- ---- a frame is put out

-- Without memory nothing is put out, and there was none for the frame or none for its bytes.
pub data PutsOut (which : Rule) (task floor : ℕ) (old new : Reception) (sent put : List ℕ)
    (answer : TaskAnswer) : Type 0 where
  puts : (next : Frame) → IsFrameOf Command next → IsSent which old.table task floor next
      → new ≡ with_sent which task floor old → put ≡ sent ++ spelling next
      → answer ≡ says.Sent (code_of next) → PutsOut which task floor old new sent put answer
  no_frame : new ≡ old → put ≡ sent → answer ≡ says.NoMemory
      → PutsOut which task floor old new sent put answer
  no_bytes : new ≡ with_sent which task floor old → put ≡ sent → answer ≡ says.NoMemory
      → PutsOut which task floor old new sent put answer

-- ---- an answer is awaited

-- the clone ends for bytes that are garbled, or there was no memory for what is kept of them
pub data Breaks (bytes : List ℕ) (old new : Reception) (answer : TaskAnswer) : Type 0 where
  breaks : (kept : List ℕ) → IsKept Answer bytes kept → new ≡ ended_as (end.Garbled kept) old
      → answer ≡ says.Ended (end.Garbled kept) → Breaks bytes old new answer
  not_kept : new ≡ old → answer ≡ says.NoMemory → Breaks bytes old new answer

-- the cause of a frame that refuses
abbrev pub refusal_in : Frame → Option CloneCause
refusal_in (frame.Refused cause) = Some cause
refusal_in other = None

abbrev pub says_of : Option CloneCause → Frame → TaskAnswer
says_of (Some cause) got = says.Ended (end.Refused cause)
says_of None got = says.Took (took_of got)

-- A FRAME that came for a task is taken where the task awaits it, and else it ends the clone.
pub data TakesFrame (task : ℕ) (got : Frame) (old new : Reception) (before after : DiskState)
    (answer : TaskAnswer) : Type 0 where
  accepts : is_expected old task got ≡ true → Takes got task old new before.told after.told
      → answer ≡ says_of (refusal_in got) got
      → TakesFrame task got old new before after answer
  rejects : is_expected old task got ≡ false → Breaks (spelling got) old new answer
      → after ≡ before → TakesFrame task got old new before after answer
  not_laid : is_expected old task got ≡ true → KeepsMark before.told after.told
      → new ≡ ended_as end.DiskFault (record old { sizes = new.sizes })
      → answer ≡ says.Ended end.DiskFault → TakesFrame task got old new before after answer
  no_room : is_expected old task got ≡ true → KeepsMark before.told after.told
      → new ≡ record old { sizes = new.sizes } → answer ≡ says.NoMemory
      → TakesFrame task got old new before after answer

abbrev pub is_lost : Link → Bool
is_lost link.Absent = false
is_lost link.Up = false
is_lost link.Lost = true

-- a loss is counted, and the clone ends where there were more than the limit
abbrev pub with_loss : Reception → Reception
with_loss r = record r { table = counted_table (after_loss r.table) }

abbrev pub loss_says : Table → TaskAnswer
loss_says t = if is_spent t then says.Ended (end.Spent t.losses) else says.Lost t.losses

-- What was received is looked at before a loss.
pub data Receives (task : ℕ) (at : Link) (old new : Reception) (before after : DiskState)
    (received left : List ℕ) (answer : TaskAnswer) : Type 0 where
  -- a whole frame is there
  takes : (got : Frame) → IsFrameOf Answer got → received ≡ spelling got ++ left
      → TakesFrame task got old new before after answer
      → Receives task at old new before after received left answer
  -- the bytes begin none
  garbled : IsLost Answer received → Breaks received old new answer → after ≡ before
      → left ≡ received → Receives task at old new before after received left answer
  -- more is needed, and no more comes
  loses : is_lost at ≡ true → IsPartial Answer received → new ≡ with_loss old
      → after ≡ before → left ≡ received → answer ≡ loss_says (after_loss old.table)
      → Receives task at old new before after received left answer
  -- more is needed
  waits : is_lost at ≡ false → IsPartial Answer received → new ≡ old → after ≡ before
      → left ≡ received → answer ≡ says.Idle
      → Receives task at old new before after received left answer
  not_read : new ≡ old → after ≡ before → left ≡ received → answer ≡ says.NoMemory
      → Receives task at old new before after received left answer

-- ---- all was copied

-- THE DISK IS COMPLETED, then EXIT is sent, and the clone has ended.
pub data Completes (old new : Reception) (told now : Option DiskImage) (sent put : List ℕ)
    (answer : TaskAnswer) : Type 0 where
  completes : (last : mark.CloneEnd) → IsEndOf old last
      → Steps told now (marked (Complete last))
      → new ≡ ended_as (end.Complete old.lsn old.position) (record old { synced = true })
      → put ≡ sent ++ spelling frame.Exit
      → answer ≡ says.Ended (end.Complete old.lsn old.position)
      → Completes old new told now sent put answer
  not_completed : (last : mark.CloneEnd) → IsEndOf old last
      → IsCompleting last told now → new ≡ ended_as end.DiskFault old
      → put ≡ sent → answer ≡ says.Ended end.DiskFault
      → Completes old new told now sent put answer
  -- there was no memory for the mark, or none for the bytes of EXIT
  not_marked : (last : mark.CloneEnd) → IsEndOf old last
      → IsCompleting last told now → new ≡ old → put ≡ sent
      → answer ≡ says.NoMemory → Completes old new told now sent put answer
  not_left : (last : mark.CloneEnd) → IsEndOf old last
      → Steps told now (marked (Complete last)) → new ≡ record old { synced = true }
      → put ≡ sent → answer ≡ says.NoMemory → Completes old new told now sent put answer

-- ---- A REQUESTER, as a step of one task sees it
pub record Requester : Type 0 where
  -- what the recipient knows of the clone, and its disk
  pub reception : Reception
  pub disk : DiskState
  -- of the connection: the bytes that were received and not taken, and those that are to be sent
  pub received : List ℕ
  pub sent : List ℕ

abbrev pub requester : Reception → DiskState → List ℕ → List ℕ → Requester
requester reception disk received sent = record {
  reception = reception;
  disk = disk;
  received = received;
  sent = sent;
}

-- a step that only puts a frame out
abbrev pub Sends : Rule → ℕ → ℕ → Requester → Requester → TaskAnswer → Type 0
Sends which task floor old new answer =
    PutsOut which task floor old.reception new.reception old.sent new.sent answer
    × (new.disk ≡ old.disk) × (new.received ≡ old.received)

-- A STEP by the rule. Where nothing is to be done, and where the connection is an old one, nothing
-- changes.
abbrev pub StepsBy : Rule → Link → ℕ → ℕ → Requester → Requester → TaskAnswer → Type 0
StepsBy rule.Nothing at task floor old new answer = (new ≡ old) × (answer ≡ says.Idle)
StepsBy rule.Stale at task floor old new answer = (new ≡ old) × (answer ≡ says.Stale)
StepsBy rule.Connect at task floor old new answer = Sends rule.Connect task floor old new answer
StepsBy (rule.Acknowledge stage) at task floor old new answer =
    Sends (rule.Acknowledge stage) task floor old new answer
StepsBy (rule.Execute stage) at task floor old new answer =
    Sends (rule.Execute stage) task floor old new answer
StepsBy rule.Receive at task floor old new answer =
    Receives task at old.reception new.reception old.disk new.disk old.received new.received answer
    × (new.sent ≡ old.sent)
StepsBy rule.Complete at task floor old new answer =
    Completes old.reception new.reception old.disk.told new.disk.told old.sent new.sent answer
    × (new.received ≡ old.received)

-- the incarnation in which the task connected last
abbrev pub made_by : Rule → ℕ → Option ℕ → Option ℕ
made_by rule.Connect incarnation made = Some incarnation
made_by rule.Nothing incarnation made = made
made_by rule.Stale incarnation made = made
made_by rule.Receive incarnation made = made
made_by rule.Complete incarnation made = made
made_by (rule.Acknowledge stage) incarnation made = made
made_by (rule.Execute stage) incarnation made = made

-- the stage that is acknowledged
abbrev pub ready_of : Rule → Option CopyStage
ready_of rule.Connect = None
ready_of rule.Nothing = None
ready_of rule.Stale = None
ready_of rule.Receive = None
ready_of rule.Complete = None
ready_of (rule.Acknowledge stage) = Some stage
ready_of (rule.Execute stage) = None
