-- HOW MANY LOSSES there were, over a step of a task: one more where it says so, and then no more than
-- are outlasted.
use Rattle.std.proofs.Common.{ℕ, ◌≡◌, ◌∙◌, ◌≤◌, ◌+◌, List, Bool, true, false, Option, Some, None, inl, inr, refl, ap, sym, subst, arith}
use Rattle.std.proofs.lemmas.Bool.{cases_Bool, ltb-false}
use Rattle.clone_outside.specs.Disk.{DiskImage}
use Rattle.clone_outside.specs.DiskCalls.{DiskState}
use Rattle.clone_chunk.specs.declared.cause.CloneCause.{CloneCause}
use Rattle.clone_chunk.specs.declared.copy_stage.CopyStage.TheVariants as copy
use Rattle.clone_chunk.specs.declared.plan.StagePlan.{StagePlan}
use Rattle.clone_chunk.specs.declared.plan.StagePlan.TheVariants as plan
use Rattle.clone_wire.specs.declared.frame.Frame.{Frame}
use Rattle.clone_wire.specs.declared.frame.Frame.TheVariants as frame
use Rattle.clone_wire.specs.Spelling.{spelling}
use Rattle.clone_tasks.specs.Awaiting.{moves}
use Rattle.clone_tasks.specs.Losing.{after_loss, is_spent}
use Rattle.clone_tasks.specs.Rules.{rule_at}
use Rattle.clone_tasks.specs.Tables.{Table}
use Rattle.clone_tasks.specs.declared.end.CloneEnd.TheVariants as end
use Rattle.clone_tasks.specs.declared.rule.Link.{Link}
use Rattle.clone_tasks.specs.declared.rule.Link.TheVariants.{Absent}
use Rattle.clone_tasks.specs.declared.rule.Rule.{Rule}
use Rattle.clone_tasks.specs.declared.rule.Rule.TheVariants as rule
use Rattle.clone_recipient.specs.Receptions.{Reception}
use Rattle.clone_recipient.specs.Taking.{HasMarked, Takes, TakesStage, moved_by}
use Rattle.clone_fetch.specs.Fetching as fetch
use Rattle.clone_fetch.specs.Fetching.{Breaks, Completes, PutsOut, Receives, Requester, StepsBy, TakesFrame, loss_says, refusal_in, says_of, with_loss, with_sent}
use Rattle.clone_fetch.specs.declared.answer.TaskAnswer.{TaskAnswer}
use Rattle.clone_fetch.specs.declared.answer.TaskAnswer.TheVariants as told
use Rattle.clone_network.specs.Connections.{link_over}
use Rattle.clone_network.specs.Networks.{Network, StepsTask}
use Rattle.clone_network.specs.Networks as network

abbrev pub Counts : TaskAnswer → Table → Table → Type 0
Counts (told.Lost losses) t u = (u.losses ≡ t.losses + 1) × (t.losses + 1 ≤ t.limit)
Counts told.Idle t u = t.losses ≤ u.losses
Counts told.Stale t u = t.losses ≤ u.losses
Counts (told.Sent code) t u = t.losses ≤ u.losses
Counts (told.Took took) t u = t.losses ≤ u.losses
Counts (told.Ended how) t u = t.losses ≤ u.losses
Counts told.NoMemory t u = t.losses ≤ u.losses

abbrev says_loss : TaskAnswer → Bool
says_loss (told.Lost losses) = true
says_loss other = false

-- no loss is told
rises : (answer : TaskAnswer) (t u : Table) → says_loss answer ≡ false → t.losses ≤ u.losses → Counts answer t u
rises (told.Lost losses) t u other is = let e = other in cc
rises told.Idle t u other is = is
rises told.Stale t u other is = is
rises (told.Sent code) t u other is = is
rises (told.Took took) t u other is = is
rises (told.Ended how) t u other is = is
rises told.NoMemory t u other is = is

abbrev losses_of : Reception → ℕ
losses_of r = r.table.losses

stays : (answer : TaskAnswer) (r s : Reception) → says_loss answer ≡ false → losses_of s ≡ losses_of r → Counts answer r.table s.table
stays answer r s other same = rises answer r.table s.table other (omega (arith, same))

breaks_off : (bytes : List ℕ) (r s : Reception) (answer : TaskAnswer) → Breaks bytes r s answer → Counts answer r.table s.table
breaks_off bytes r s answer (fetch.breaks found is ended heard) = stays answer r s (ap says_loss heard) (ap losses_of ended)
breaks_off bytes r s answer (fetch.not_kept same heard) = stays answer r s (ap says_loss heard) (ap losses_of same)

completes_so : (r s : Reception) (before now : Option DiskImage) (sent put : List ℕ) (answer : TaskAnswer) → Completes r s before now sent put answer → Counts answer r.table s.table
completes_so r s before now sent put answer (fetch.completes last is steps ended puts heard) = stays answer r s (ap says_loss heard) (ap losses_of ended)
completes_so r s before now sent put answer (fetch.not_completed last is steps ended puts heard) = stays answer r s (ap says_loss heard) (ap losses_of ended)
completes_so r s before now sent put answer (fetch.not_marked last is steps same puts heard) = stays answer r s (ap says_loss heard) (ap losses_of same)
completes_so r s before now sent put answer (fetch.not_left last is steps same puts heard) = stays answer r s (ap says_loss heard) (ap losses_of same)

-- ---- a frame is put out

sent_same : (which : Rule) (task floor : ℕ) (r : Reception) → losses_of (with_sent which task floor r) ≡ losses_of r
sent_same rule.Nothing task floor r = refl
sent_same rule.Stale task floor r = refl
sent_same rule.Receive task floor r = refl
sent_same rule.Complete task floor r = refl
sent_same rule.Connect task floor r = refl
sent_same (rule.Execute stage) task floor r = refl
sent_same (rule.Acknowledge copy.FileCopy) task floor r = refl
sent_same (rule.Acknowledge copy.PageCopy) task floor r = refl
sent_same (rule.Acknowledge copy.RedoCopy) task floor r = refl

puts_out : (which : Rule) (task floor : ℕ) (r s : Reception) (sent put : List ℕ) (answer : TaskAnswer) → PutsOut which task floor r s sent put answer → Counts answer r.table s.table
puts_out which task floor r s sent put answer (fetch.puts next of is after out heard) = stays answer r s (ap says_loss heard) (ap losses_of after ∙ sent_same which task floor r)
puts_out which task floor r s sent put answer (fetch.no_frame same out heard) = stays answer r s (ap says_loss heard) (ap losses_of same)
puts_out which task floor r s sent put answer (fetch.no_bytes after out heard) = stays answer r s (ap says_loss heard) (ap losses_of after ∙ sent_same which task floor r)

-- ---- a frame is taken

moved_so : (p : StagePlan) (r : Reception) → losses_of (moved_by p r) ≡ losses_of r
moved_so (plan.FileCopy chunks spaces) r = refl
moved_so (plan.PageCopy chunks position spaces) r = refl
moved_so (plan.RedoCopy chunks checkpoint lsn position) r = refl
moved_so (plan.Done checkpoint lsn position) r = refl

took_stage : (moved : Bool) (p : StagePlan) (task : ℕ) (r s : Reception) (before now : Option DiskImage) → TakesStage moved p task r s before now → losses_of s ≡ losses_of r
took_stage true p task r s before now takes = ap losses_of takes.0 ∙ moved_so p r
took_stage false p task r s before now takes = ap losses_of takes.0

took_block : (chunk block : ℕ) (r s : Reception) → HasMarked chunk block r s → losses_of s ≡ losses_of r
took_block chunk block r s marked = ap losses_of marked.else_same ∙ ap (λ (t : Table). t.losses) marked.table.else_same

took : (task : ℕ) (got : Frame) (r s : Reception) (before now : Option DiskImage) → Takes got task r s before now → losses_of s ≡ losses_of r
took task (frame.Init attempt version page_size compressed tasks) r s before now takes = absurd takes
took task (frame.Attach attempt other) r s before now takes = absurd takes
took task (frame.Reinit attempt stage finished) r s before now takes = absurd takes
took task (frame.Reinit2 attempt stage taken) r s before now takes = absurd takes
took task (frame.Execute stage) r s before now takes = absurd takes
took task (frame.Ack stage floor) r s before now takes = absurd takes
took task frame.Exit r s before now takes = absurd takes
took task (frame.Stage attempt p) r s before now takes = took_stage (moves r.table task) p task r s before now takes
took task (frame.Pages attempt stage chunk block pages) r s before now takes = took_block chunk block r s takes.0
took task (frame.Redo attempt chunk block from bytes) r s before now takes = took_block chunk block r s takes.0
took task (frame.End attempt stage) r s before now takes = ap losses_of takes.0
took task (frame.Refused cause) r s before now takes = ap losses_of takes.0

said_of : (cause : Option CloneCause) (got : Frame) → says_loss (says_of cause got) ≡ false
said_of None got = refl
said_of (Some cause) got = refl

takes_frame : (task : ℕ) (got : Frame) (r s : Reception) (before after : DiskState) (answer : TaskAnswer) → TakesFrame task got r s before after answer → Counts answer r.table s.table
takes_frame task got r s before after answer (fetch.accepts expected takes heard) = stays answer r s (ap says_loss heard ∙ said_of (refusal_in got) got) (took task got r s before.told after.told takes)
takes_frame task got r s before after answer (fetch.rejects other broke same) = breaks_off (spelling got) r s answer broke
takes_frame task got r s before after answer (fetch.not_laid expected keeps ended heard) = stays answer r s (ap says_loss heard) (ap losses_of ended)
takes_frame task got r s before after answer (fetch.no_room expected keeps same heard) = stays answer r s (ap says_loss heard) (ap losses_of same)

-- ---- a loss is counted

loses_so : (r s : Reception) (answer : TaskAnswer) → s ≡ with_loss r → answer ≡ loss_says (after_loss r.table) → Counts answer r.table s.table
loses_so r s answer lost heard =
    let t = after_loss r.table in
    elim (cases_Bool (is_spent t)) [
      | inl over ↦
          let is : s ≡ fetch.ended_as (end.Spent t.losses) (record r { table = t }) = rw over at lost in
          let says : answer ≡ told.Ended (end.Spent t.losses) = rw over at heard in
          rises answer r.table s.table (ap says_loss says) (omega (arith, ap losses_of is))
      | inr more ↦
          let is : s ≡ record r { table = t } = rw more at lost in
          let says : answer ≡ told.Lost t.losses = rw more at heard in
          subst (λ (a : TaskAnswer). Counts a r.table s.table) (sym says) (ap losses_of is, ltb-false r.table.limit (r.table.losses + 1) more)
    ]

receives : (task : ℕ) (at : Link) (r s : Reception) (before after : DiskState) (received left : List ℕ) (answer : TaskAnswer) → Receives task at r s before after received left answer → Counts answer r.table s.table
receives task at r s before after received left answer (fetch.takes got of is takes) = takes_frame task got r s before after answer takes
receives task at r s before after received left answer (fetch.garbled lost broke disk same) = breaks_off received r s answer broke
receives task at r s before after received left answer (fetch.loses is partial lost disk same heard) = loses_so r s answer lost heard
receives task at r s before after received left answer (fetch.waits is partial same disk left_same heard) = stays answer r s (ap says_loss heard) (ap losses_of same)
receives task at r s before after received left answer (fetch.not_read same disk left_same heard) = stays answer r s (ap says_loss heard) (ap losses_of same)

-- ---- by the rule

steps_so : (which : Rule) (at : Link) (task floor : ℕ) (old new : Requester) (answer : TaskAnswer) → StepsBy which at task floor old new answer → Counts answer old.reception.table new.reception.table
steps_so rule.Nothing at task floor old new answer (same, heard) = stays answer old.reception new.reception (ap says_loss heard) (ap (λ (x : Requester). losses_of x.reception) same)
steps_so rule.Stale at task floor old new answer (same, heard) = stays answer old.reception new.reception (ap says_loss heard) (ap (λ (x : Requester). losses_of x.reception) same)
steps_so rule.Connect at task floor old new answer steps = puts_out rule.Connect task floor old.reception new.reception old.sent new.sent answer steps.0
steps_so (rule.Acknowledge stage) at task floor old new answer steps = puts_out (rule.Acknowledge stage) task floor old.reception new.reception old.sent new.sent answer steps.0
steps_so (rule.Execute stage) at task floor old new answer steps = puts_out (rule.Execute stage) task floor old.reception new.reception old.sent new.sent answer steps.0
steps_so rule.Receive at task floor old new answer steps = receives task at old.reception new.reception old.disk new.disk old.received new.received answer steps.0
steps_so rule.Complete at task floor old new answer steps = completes_so old.reception new.reception old.disk.told new.disk.told old.sent new.sent answer steps.0

pub task_counts : (r s : Reception) (d e : DiskState) (n m : Network) (task floor : ℕ) (answer : TaskAnswer) → StepsTask task floor r s d e n m answer → Counts answer r.table s.table
task_counts r s d e n m task floor answer (network.over seat number at after made here has there f is) = steps_so (rule_at seat.made r.table task (link_over at)) (link_over at) task floor _ _ answer f.steps
task_counts r s d e n m task floor answer (network.apart seat after connections here has c is) = steps_so (rule_at seat.made r.table task Absent) Absent task floor _ _ answer c.steps
task_counts r s d e n m task floor answer (network.absent here same heard) = stays answer r s (ap says_loss heard) (ap losses_of same.reception)
task_counts r s d e n m task floor answer (network.no_room same heard) = stays answer r s (ap says_loss heard) (ap losses_of same.reception)
