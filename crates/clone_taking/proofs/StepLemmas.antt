-- What one step of a task takes, and what it puts out.
use Rattle.std.proofs.Common.{ℕ, ◌≡◌, ◌∙◌, ◌-◌, ◌==◌, true, [], length, take, drop, Option, inl, inr, refl, ap, subst}
use Rattle.std.specs.Prelude.{is_some}
use Rattle.clone_outside.specs.Disk.{DiskImage}
use Rattle.clone_outside.specs.DiskCalls.{DiskState}
use Rattle.clone_chunk.specs.declared.copy_stage.CopyStage.{CopyStage}
use Rattle.clone_wire.specs.Spelling.{spelling}
use Rattle.clone_wire.specs.declared.frame.Frame.{Frame}
use Rattle.clone_wire.specs.declared.frame.Frame.TheVariants as frame
use Rattle.clone_wire.specs.declared.frame.Side.TheVariants.{Answer, Command}
use Rattle.clone_stream.specs.Streams.{IsFrameOf}
use Rattle.clone_tasks.specs.Sending.{IsFirst, kept_floor, sent_floor}
use Rattle.clone_tasks.specs.Tables.{Table}
use Rattle.clone_tasks.specs.declared.rule.Link.{Link}
use Rattle.clone_tasks.specs.declared.rule.Rule.{Rule}
use Rattle.clone_tasks.specs.declared.rule.Rule.TheVariants as rule
use Rattle.clone_recipient.specs.Receptions.{Reception}
use Rattle.clone_fetch.specs.Fetching.{Completes, PutsOut, Receives, Requester, StepsBy}
use Rattle.clone_fetch.specs.Fetching.{completes, garbled, loses, no_bytes, no_frame, not_completed, not_left, not_marked, not_read, puts, takes, waits}
use Rattle.clone_fetch.specs.declared.answer.TaskAnswer.{TaskAnswer}
use Rattle.clone_reading.specs.Reading.{Bytes}
use Rattle.clone_taking.proofs.FrameLemmas.{IsOne}
use Rattle.clone_taking.proofs.PieceLemmas.{behind, in_front, none_behind, none_in_front}

-- ---- what it takes

took_by : (task : ℕ) (at : Link) (old new : Reception) (before after : DiskState) (received left : Bytes) (answer : TaskAnswer) → Receives task at old new before after received left answer
    → IsOne Answer (take (length received - length left) received)
took_by task at old new before after received left answer (takes got of is taken) = inr (got, of, in_front (spelling got) left received is)
took_by task at old new before after received left answer (garbled lost broken same none) = inl (none_in_front left received none)
took_by task at old new before after received left answer (loses lost part sets same none says) = inl (none_in_front left received none)
took_by task at old new before after received left answer (waits up part sets same none says) = inl (none_in_front left received none)
took_by task at old new before after received left answer (not_read sets same none says) = inl (none_in_front left received none)

-- nothing, or the bytes of one answer
pub step_takes : (which : Rule) (at : Link) (task floor : ℕ) (old new : Requester) (answer : TaskAnswer) → StepsBy which at task floor old new answer
    → IsOne Answer (take (length old.received - length new.received) old.received)
step_takes rule.Nothing at task floor old new answer steps = inl (none_in_front new.received old.received (ap (λ (r : Requester). r.received) steps.0))
step_takes rule.Stale at task floor old new answer steps = inl (none_in_front new.received old.received (ap (λ (r : Requester). r.received) steps.0))
step_takes rule.Connect at task floor old new answer steps = inl (none_in_front new.received old.received steps.2)
step_takes (rule.Acknowledge stage) at task floor old new answer steps = inl (none_in_front new.received old.received steps.2)
step_takes (rule.Execute stage) at task floor old new answer steps = inl (none_in_front new.received old.received steps.2)
step_takes rule.Receive at task floor old new answer steps = took_by task at old.reception new.reception old.disk new.disk old.received new.received answer steps.0
step_takes rule.Complete at task floor old new answer steps = inl (none_in_front new.received old.received steps.1)

-- ---- what it puts out

-- WHAT IS PUT OUT, with what the table was and is then
pub data Puts (task : ℕ) (old new : Table) (bytes : Bytes) : Type 0 where
  nothing : bytes ≡ [] → Puts task old new bytes
  connects : (next : Frame) → IsFrameOf Command next → IsFirst (task == 0) old task next → bytes ≡ spelling next → Puts task old new bytes
  acknowledges : (stage : CopyStage) (floor : ℕ) → IsFrameOf Command (frame.Ack stage (sent_floor stage old.floor floor)) → new.floor ≡ kept_floor stage old.floor floor
      → bytes ≡ spelling (frame.Ack stage (sent_floor stage old.floor floor)) → Puts task old new bytes
  executes : (stage : CopyStage) → bytes ≡ spelling (frame.Execute stage) → Puts task old new bytes
  leaves : task ≡ 0 → is_some new.ended ≡ true → bytes ≡ spelling frame.Exit → Puts task old new bytes

put_first : (task floor : ℕ) (old new : Reception) (sent put : Bytes) (answer : TaskAnswer) → PutsOut rule.Connect task floor old new sent put answer → Puts task old.table new.table (drop (length sent) put)
put_first task floor old new sent put answer (puts next of is sets bytes says) = connects next of is (behind sent (spelling next) put bytes)
put_first task floor old new sent put answer (no_frame sets bytes says) = nothing (none_behind sent put bytes)
put_first task floor old new sent put answer (no_bytes sets bytes says) = nothing (none_behind sent put bytes)

put_ack : (stage : CopyStage) (task floor : ℕ) (old new : Reception) (sent put : Bytes) (answer : TaskAnswer) → PutsOut (rule.Acknowledge stage) task floor old new sent put answer → Puts task old.table new.table (drop (length sent) put)
put_ack stage task floor old new sent put answer (puts next of is sets bytes says) =
    acknowledges stage floor (subst (λ (x : Frame). IsFrameOf Command x) is of) (ap (λ (r : Reception). r.table.floor) sets) (behind sent (spelling next) put bytes ∙ ap spelling is)
put_ack stage task floor old new sent put answer (no_frame sets bytes says) = nothing (none_behind sent put bytes)
put_ack stage task floor old new sent put answer (no_bytes sets bytes says) = nothing (none_behind sent put bytes)

put_execute : (stage : CopyStage) (task floor : ℕ) (old new : Reception) (sent put : Bytes) (answer : TaskAnswer) → PutsOut (rule.Execute stage) task floor old new sent put answer → Puts task old.table new.table (drop (length sent) put)
put_execute stage task floor old new sent put answer (puts next of is sets bytes says) = executes stage (behind sent (spelling next) put bytes ∙ ap spelling is)
put_execute stage task floor old new sent put answer (no_frame sets bytes says) = nothing (none_behind sent put bytes)
put_execute stage task floor old new sent put answer (no_bytes sets bytes says) = nothing (none_behind sent put bytes)

put_last : (task : ℕ) (old new : Reception) (told now : Option DiskImage) (sent put : Bytes) (answer : TaskAnswer) → task ≡ 0 → Completes old new told now sent put answer → Puts task old.table new.table (drop (length sent) put)
put_last task old new told now sent put answer first (completes last is steps sets bytes says) =
    leaves first (ap (λ (r : Reception). is_some r.table.ended) sets) (behind sent (spelling frame.Exit) put bytes)
put_last task old new told now sent put answer first (not_completed last is steps sets bytes says) = nothing (none_behind sent put bytes)
put_last task old new told now sent put answer first (not_marked last is steps sets bytes says) = nothing (none_behind sent put bytes)
put_last task old new told now sent put answer first (not_left last is steps sets bytes says) = nothing (none_behind sent put bytes)

pub step_puts : (which : Rule) (at : Link) (task floor : ℕ) (old new : Requester) (answer : TaskAnswer) → (which ≡ rule.Complete → task ≡ 0) → StepsBy which at task floor old new answer
    → Puts task old.reception.table new.reception.table (drop (length old.sent) new.sent)
step_puts rule.Nothing at task floor old new answer first steps = nothing (none_behind old.sent new.sent (ap (λ (r : Requester). r.sent) steps.0))
step_puts rule.Stale at task floor old new answer first steps = nothing (none_behind old.sent new.sent (ap (λ (r : Requester). r.sent) steps.0))
step_puts rule.Connect at task floor old new answer first steps = put_first task floor old.reception new.reception old.sent new.sent answer steps.0
step_puts (rule.Acknowledge stage) at task floor old new answer first steps = put_ack stage task floor old.reception new.reception old.sent new.sent answer steps.0
step_puts (rule.Execute stage) at task floor old new answer first steps = put_execute stage task floor old.reception new.reception old.sent new.sent answer steps.0
step_puts rule.Receive at task floor old new answer first steps = nothing (none_behind old.sent new.sent steps.1)
step_puts rule.Complete at task floor old new answer first steps = put_last task old.reception new.reception old.disk.told new.disk.told old.sent new.sent answer (first refl) steps.0

-- it is one frame of a requester at most
pub puts_one : (task : ℕ) (old new : Table) (bytes : Bytes) → Puts task old new bytes → IsOne Command bytes
puts_one task old new bytes (nothing none) = inl none
puts_one task old new bytes (connects next of is bytes_are) = inr (next, of, bytes_are)
puts_one task old new bytes (acknowledges stage floor of kept bytes_are) = inr (frame.Ack stage (sent_floor stage old.floor floor), of, bytes_are)
puts_one task old new bytes (executes stage bytes_are) = inr (frame.Execute stage, record { is = tt; sender = refl }, bytes_are)
puts_one task old new bytes (leaves first ended bytes_are) = inr (frame.Exit, record { is = tt; sender = refl }, bytes_are)
