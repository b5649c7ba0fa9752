-- Once the floor of the copy of pages is kept, no step of a task changes it.
use Rattle.std.proofs.Common.{ℕ, ◌≡◌, ◌∙◌, Bool, true, false, List, Option, Some, refl, ap}
use Rattle.std.specs.Prelude.{if◌then◌else◌}
use Rattle.std.specs.Option.{unwrap_or}
use Rattle.clone_outside.specs.Disk.{DiskImage}
use Rattle.clone_outside.specs.DiskCalls.{DiskState}
use Rattle.clone_chunk.specs.declared.copy_stage.CopyStage.TheVariants as copy
use Rattle.clone_chunk.specs.declared.plan.StagePlan.{StagePlan}
use Rattle.clone_chunk.specs.declared.plan.StagePlan.TheVariants as plan
use Rattle.clone_wire.specs.Spelling.{spelling}
use Rattle.clone_wire.specs.declared.frame.Frame.{Frame}
use Rattle.clone_wire.specs.declared.frame.Frame.TheVariants as frame
use Rattle.clone_tasks.specs.Awaiting.{moves}
use Rattle.clone_tasks.specs.Losing.{after_loss, is_spent}
use Rattle.clone_tasks.specs.Sending.{after_sending}
use Rattle.clone_tasks.specs.Tables.{Table}
use Rattle.clone_tasks.specs.declared.end.CloneEnd.{CloneEnd}
use Rattle.clone_tasks.specs.declared.end.CloneEnd.TheVariants as end
use Rattle.clone_tasks.specs.declared.rule.Link.{Link}
use Rattle.clone_tasks.specs.declared.rule.Rule.{Rule}
use Rattle.clone_tasks.specs.declared.rule.Rule.TheVariants as rule
use Rattle.clone_recipient.specs.Receptions.{Reception}
use Rattle.clone_recipient.specs.Taking.{Takes, TakesStage, table_after}
use Rattle.clone_fetch.specs.Fetching.{Breaks, Completes, PutsOut, Receives, Requester, StepsBy, TakesFrame}
use Rattle.clone_fetch.specs.Fetching.{accepts, breaks, completes, garbled, loses, no_bytes, no_frame, no_room, not_completed, not_kept, not_laid, not_left, not_marked, not_read, puts, rejects, takes, waits}
use Rattle.clone_fetch.specs.declared.answer.TaskAnswer.{TaskAnswer}

-- the floor is as it was
abbrev HasSameFloor : Reception → Reception → Type 0
HasSameFloor old new = new.table.floor ≡ old.table.floor

abbrev floor_of : Reception → Option ℕ
floor_of r = r.table.floor

-- ---- an answer is taken

planned : (told : StagePlan) (t : Table) → (table_after told t).floor ≡ t.floor
planned (plan.FileCopy chunks spaces) t = refl
planned (plan.PageCopy chunks position spaces) t = refl
planned (plan.RedoCopy chunks checkpoint lsn position) t = refl
planned (plan.Done checkpoint lsn position) t = refl

takes_stage : (moved : Bool) (told : StagePlan) (task : ℕ) (old new : Reception) (before now : Option DiskImage) → TakesStage moved told task old new before now → HasSameFloor old new
takes_stage true told task old new before now is = ap floor_of is.0 ∙ planned told old.table
takes_stage false told task old new before now is = ap floor_of is.0

takes_it : (got : Frame) (task : ℕ) (old new : Reception) (before now : Option DiskImage) → Takes got task old new before now → HasSameFloor old new
takes_it (frame.Init attempt version page_size compressed tasks) task old new before now is = absurd is
takes_it (frame.Attach attempt other) task old new before now is = absurd is
takes_it (frame.Reinit attempt stage finished) task old new before now is = absurd is
takes_it (frame.Reinit2 attempt stage taken) task old new before now is = absurd is
takes_it (frame.Execute stage) task old new before now is = absurd is
takes_it (frame.Ack stage floor) task old new before now is = absurd is
takes_it frame.Exit task old new before now is = absurd is
takes_it (frame.Stage attempt told) task old new before now is = takes_stage (moves old.table task) told task old new before now is
takes_it (frame.Pages attempt stage chunk block pages) task old new before now is = ap (λ (t : Table). t.floor) is.0.table.else_same
takes_it (frame.Redo attempt chunk block from bytes) task old new before now is = ap (λ (t : Table). t.floor) is.0.table.else_same
takes_it (frame.End attempt stage) task old new before now is = ap floor_of is.0
takes_it (frame.Refused cause) task old new before now is = ap floor_of is.0

breaks_off : (bytes : List ℕ) (old new : Reception) (answer : TaskAnswer) → Breaks bytes old new answer → HasSameFloor old new
breaks_off bytes old new answer (breaks kept is sets says) = ap floor_of sets
breaks_off bytes old new answer (not_kept sets says) = ap floor_of sets

takes_frame : (task : ℕ) (got : Frame) (old new : Reception) (before after : DiskState) (answer : TaskAnswer) → TakesFrame task got old new before after answer → HasSameFloor old new
takes_frame task got old new before after answer (accepts is taken says) = takes_it got task old new before.told after.told taken
takes_frame task got old new before after answer (rejects is broken same) = breaks_off (spelling got) old new answer broken
takes_frame task got old new before after answer (not_laid is keeps sets says) = ap floor_of sets
takes_frame task got old new before after answer (no_room is keeps sets says) = ap floor_of sets

spent : (over : Bool) (how : Option CloneEnd) (t : Table) → (if over then record t { ended = how } else t).floor ≡ t.floor
spent true how t = refl
spent false how t = refl

receives : (task : ℕ) (at : Link) (old new : Reception) (before after : DiskState) (received left : List ℕ) (answer : TaskAnswer) → Receives task at old new before after received left answer → HasSameFloor old new
receives task at old new before after received left answer (takes got of is taken) = takes_frame task got old new before after answer taken
receives task at old new before after received left answer (garbled lost broken same none) = breaks_off received old new answer broken
receives task at old new before after received left answer (loses lost part sets same none says) =
    let t = after_loss old.table in ap floor_of sets ∙ spent (is_spent t) (Some (end.Spent t.losses)) t
receives task at old new before after received left answer (waits up part sets same none says) = ap floor_of sets
receives task at old new before after received left answer (not_read sets same none says) = ap floor_of sets

completes_it : (old new : Reception) (told now : Option DiskImage) (sent put : List ℕ) (answer : TaskAnswer) → Completes old new told now sent put answer → HasSameFloor old new
completes_it old new told now sent put answer (completes last is steps sets bytes says) = ap floor_of sets
completes_it old new told now sent put answer (not_completed last is steps sets bytes says) = ap floor_of sets
completes_it old new told now sent put answer (not_marked last is steps sets bytes says) = ap floor_of sets
completes_it old new told now sent put answer (not_left last is steps sets bytes says) = ap floor_of sets

-- ---- a command is put out

-- a floor that is kept stays
abbrev pub KeepsFloor : Table → Table → Type 0
KeepsFloor old new = (kept : ℕ) → old.floor ≡ Some kept → new.floor ≡ Some kept

sent_keeps : (which : Rule) (t : Table) (task floor : ℕ) → KeepsFloor t (after_sending which t task floor)
sent_keeps rule.Nothing t task floor kept has = has
sent_keeps rule.Stale t task floor kept has = has
sent_keeps rule.Receive t task floor kept has = has
sent_keeps rule.Connect t task floor kept has = has
sent_keeps (rule.Acknowledge copy.FileCopy) t task floor kept has = has
sent_keeps (rule.Acknowledge copy.PageCopy) t task floor kept has = ap (λ (o : Option ℕ). Some (unwrap_or o floor)) has
sent_keeps (rule.Acknowledge copy.RedoCopy) t task floor kept has = has
sent_keeps (rule.Execute stage) t task floor kept has = has
sent_keeps rule.Complete t task floor kept has = has

puts_keeps : (which : Rule) (task floor : ℕ) (old new : Reception) (sent put : List ℕ) (answer : TaskAnswer) → PutsOut which task floor old new sent put answer → KeepsFloor old.table new.table
puts_keeps which task floor old new sent put answer (puts next of is sets bytes says) kept has = ap floor_of sets ∙ sent_keeps which old.table task floor kept has
puts_keeps which task floor old new sent put answer (no_frame sets bytes says) kept has = ap floor_of sets ∙ has
puts_keeps which task floor old new sent put answer (no_bytes sets bytes says) kept has = ap floor_of sets ∙ sent_keeps which old.table task floor kept has

pub step_keeps : (which : Rule) (at : Link) (task floor : ℕ) (old new : Requester) (answer : TaskAnswer) → StepsBy which at task floor old new answer → KeepsFloor old.reception.table new.reception.table
step_keeps rule.Nothing at task floor old new answer steps kept has = ap (λ (r : Requester). r.reception.table.floor) steps.0 ∙ has
step_keeps rule.Stale at task floor old new answer steps kept has = ap (λ (r : Requester). r.reception.table.floor) steps.0 ∙ has
step_keeps rule.Connect at task floor old new answer steps kept has = puts_keeps rule.Connect task floor old.reception new.reception old.sent new.sent answer steps.0 kept has
step_keeps (rule.Acknowledge stage) at task floor old new answer steps kept has = puts_keeps (rule.Acknowledge stage) task floor old.reception new.reception old.sent new.sent answer steps.0 kept has
step_keeps (rule.Execute stage) at task floor old new answer steps kept has = puts_keeps (rule.Execute stage) task floor old.reception new.reception old.sent new.sent answer steps.0 kept has
step_keeps rule.Receive at task floor old new answer steps kept has =
    receives task at old.reception new.reception old.disk new.disk old.received new.received answer steps.0 ∙ has
step_keeps rule.Complete at task floor old new answer steps kept has =
    completes_it old.reception new.reception old.disk.told new.disk.told old.sent new.sent answer steps.0 ∙ has
