-- What a step of a task changes of how a clone has ended, and of the limit of its losses.
use Rattle.std.proofs.Common.{ℕ, ◌≡◌, ◌<◌, ◌⊎◌, ◌∙◌, Bool, true, false, Option, List, Some, inl, inr, refl, ap}
use Rattle.std.specs.Prelude.{◌==◌, ◌&&◌, ◌||◌, not, nat_lt, if◌then◌else◌, ⊤}
use Rattle.std.proofs.lemmas.Bool.{cases_Bool, ltb-true}
use Rattle.clone_outside.specs.Disk.{DiskImage}
use Rattle.clone_outside.specs.DiskCalls.{DiskState}
use Rattle.clone_chunk.specs.declared.plan.StagePlan.{StagePlan}
use Rattle.clone_chunk.specs.declared.plan.StagePlan.TheVariants as plan
use Rattle.clone_wire.specs.declared.frame.Frame.{Frame}
use Rattle.clone_wire.specs.declared.frame.Frame.TheVariants as frame
use Rattle.clone_wire.specs.Spelling.{spelling}
use Rattle.clone_tasks.specs.Awaiting.{moves}
use Rattle.clone_tasks.specs.Losing.{after_loss, is_spent}
use Rattle.clone_tasks.specs.Rules.{is_stale, rule_at, takes_part}
use Rattle.clone_tasks.specs.Tables.{Table, incarnation_of, is_done, is_running}
use Rattle.clone_tasks.specs.declared.end.CloneEnd.{CloneEnd}
use Rattle.clone_tasks.specs.declared.end.CloneEnd.TheVariants as end
use Rattle.clone_tasks.specs.declared.rule.Link.{Link}
use Rattle.clone_tasks.specs.declared.rule.Rule.{Rule}
use Rattle.clone_tasks.specs.declared.rule.Rule.TheVariants as rule
use Rattle.clone_recipient.specs.Receptions.{Reception}
use Rattle.clone_recipient.specs.Taking.{HasMarked, Takes, TakesStage, moved_by}
use Rattle.clone_fetch.specs.Fetching as fetch
use Rattle.clone_fetch.specs.Fetching.{Breaks, Completes, PutsOut, Receives, Requester, StepsBy, TakesFrame, ended_as, loss_says, refusal_in, says_of, with_loss, with_sent}
use Rattle.clone_fetch.specs.declared.answer.TaskAnswer.{TaskAnswer}
use Rattle.clone_fetch.specs.declared.answer.TaskAnswer.TheVariants as says

-- a clone that is spent had more losses than the limit
abbrev pub IsOver : CloneEnd → ℕ → Type 0
IsOver (end.Spent losses) limit = limit < losses
IsOver other limit = ⊤

-- how a clone has ended, if it has, and its limit
record Known : Type 0 where
  ended : Option CloneEnd
  limit : ℕ

abbrev known : Reception → Known
known r = record { ended = r.table.ended; limit = r.table.limit }

-- the step ends the clone so, and says that
pub record EndsNow (r s : Reception) (answer : TaskAnswer) : Type 0 where
  pub how : CloneEnd
  pub is : s.table.ended ≡ Some how
  pub told : answer ≡ says.Ended how
  pub over : IsOver how r.table.limit

-- WHAT CHANGES over a step
pub record Course (r s : Reception) (answer : TaskAnswer) : Type 0 where
  pub limit : s.table.limit ≡ r.table.limit
  pub ended : (s.table.ended ≡ r.table.ended) ⊎ EndsNow r s answer

module _ (r s : Reception) (answer : TaskAnswer) where
  rests : known s ≡ known r → Course r s answer
  rests same = record { limit = ap (λ (k : Known). k.limit) same; ended = inl (ap (λ (k : Known). k.ended) same) }

  ends : (x : Reception) (how : CloneEnd) → known x ≡ known r → s ≡ ended_as how x → answer ≡ says.Ended how → IsOver how r.table.limit → Course r s answer
  ends x how same is told over = record {
    limit = ap (λ (y : Reception). y.table.limit) is ∙ ap (λ (k : Known). k.limit) same;
    ended = inr (record { how = how; is = ap (λ (y : Reception). y.table.ended) is; told = told; over = over });
  }

  breaks : (bytes : List ℕ) → Breaks bytes r s answer → Course r s answer
  breaks bytes (fetch.breaks kept found is told) = ends r (end.Garbled kept) refl is told tt
  breaks bytes (fetch.not_kept same told) = rests (ap known same)

  completes : (before now : Option DiskImage) (sent put : List ℕ) → Completes r s before now sent put answer → Course r s answer
  completes before now sent put (fetch.completes last at steps is puts told) = ends (record r { synced = true }) (end.Complete r.lsn r.position) refl is told tt
  completes before now sent put (fetch.not_completed last at steps is puts told) = ends r end.DiskFault refl is told tt
  completes before now sent put (fetch.not_marked last at steps same puts told) = rests (ap known same)
  completes before now sent put (fetch.not_left last at steps same puts told) = rests (ap known same)

-- ---- a frame is put out

sent_known : (which : Rule) (task floor : ℕ) (r : Reception) → known (with_sent which task floor r) ≡ known r
sent_known rule.Nothing task floor r = refl
sent_known rule.Stale task floor r = refl
sent_known rule.Receive task floor r = refl
sent_known rule.Complete task floor r = refl
sent_known rule.Connect task floor r = refl
sent_known (rule.Execute stage) task floor r = refl
sent_known (rule.Acknowledge stage) task floor r = refl

puts_out : (which : Rule) (task floor : ℕ) (r s : Reception) (sent put : List ℕ) (answer : TaskAnswer) → PutsOut which task floor r s sent put answer → Course r s answer
puts_out which task floor r s sent put answer (fetch.puts next of is new puts told) = rests r s answer (ap known new ∙ sent_known which task floor r)
puts_out which task floor r s sent put answer (fetch.no_frame same puts told) = rests r s answer (ap known same)
puts_out which task floor r s sent put answer (fetch.no_bytes new puts told) = rests r s answer (ap known new ∙ sent_known which task floor r)

-- ---- a frame is taken

moved_known : (p : StagePlan) (r : Reception) → known (moved_by p r) ≡ known r
moved_known (plan.FileCopy chunks spaces) r = refl
moved_known (plan.PageCopy chunks position spaces) r = refl
moved_known (plan.RedoCopy chunks checkpoint lsn position) r = refl
moved_known (plan.Done checkpoint lsn position) r = refl

stage_known : (moved : Bool) (p : StagePlan) (task : ℕ) (r s : Reception) (before now : Option DiskImage) → TakesStage moved p task r s before now → known s ≡ known r
stage_known true p task r s before now takes = ap known takes.0 ∙ moved_known p r
stage_known false p task r s before now takes = ap known takes.0

block_known : (chunk block : ℕ) (r s : Reception) → HasMarked chunk block r s → known s ≡ known r
block_known chunk block r s marked = ap known marked.else_same ∙ ap (λ (t : Table). known (record r { table = t })) marked.table.else_same

accepts : (task : ℕ) (got : Frame) (r s : Reception) (before now : Option DiskImage) (answer : TaskAnswer) → Takes got task r s before now → answer ≡ says_of (refusal_in got) got → Course r s answer
accepts task (frame.Init attempt version page_size compressed tasks) r s before now answer takes told = absurd takes
accepts task (frame.Attach attempt other) r s before now answer takes told = absurd takes
accepts task (frame.Reinit attempt stage finished) r s before now answer takes told = absurd takes
accepts task (frame.Reinit2 attempt stage taken) r s before now answer takes told = absurd takes
accepts task (frame.Execute stage) r s before now answer takes told = absurd takes
accepts task (frame.Ack stage floor) r s before now answer takes told = absurd takes
accepts task frame.Exit r s before now answer takes told = absurd takes
accepts task (frame.Stage attempt p) r s before now answer takes told = rests r s answer (stage_known (moves r.table task) p task r s before now takes)
accepts task (frame.Pages attempt stage chunk block pages) r s before now answer takes told = rests r s answer (block_known chunk block r s takes.0)
accepts task (frame.Redo attempt chunk block from bytes) r s before now answer takes told = rests r s answer (block_known chunk block r s takes.0)
accepts task (frame.End attempt stage) r s before now answer takes told = rests r s answer (ap known takes.0)
accepts task (frame.Refused cause) r s before now answer takes told = ends r s answer r (end.Refused cause) refl takes.0 told tt

takes_frame : (task : ℕ) (got : Frame) (r s : Reception) (before after : DiskState) (answer : TaskAnswer) → TakesFrame task got r s before after answer → Course r s answer
takes_frame task got r s before after answer (fetch.accepts expected takes told) = accepts task got r s before.told after.told answer takes told
takes_frame task got r s before after answer (fetch.rejects other broke same) = breaks r s answer (spelling got) broke
takes_frame task got r s before after answer (fetch.not_laid expected keeps is told) = ends r s answer (record r { sizes = s.sizes }) end.DiskFault refl is told tt
takes_frame task got r s before after answer (fetch.no_room expected keeps same told) = rests r s answer (ap known same)

-- ---- a loss is counted

loses : (r s : Reception) (answer : TaskAnswer) → s ≡ with_loss r → answer ≡ loss_says (after_loss r.table) → Course r s answer
loses r s answer lost told =
    let t = after_loss r.table in
    elim (cases_Bool (is_spent t)) [
      | inl over ↦
          let is : s ≡ ended_as (end.Spent t.losses) (record r { table = t }) = rw over at lost in
          let said : answer ≡ says.Ended (end.Spent t.losses) = rw over at told in
          ends r s answer (record r { table = t }) (end.Spent t.losses) refl is said (ltb-true r.table.limit t.losses over)
      | inr more ↦
          let is : s ≡ record r { table = t } = rw more at lost in
          rests r s answer (ap known is)
    ]

receives : (task : ℕ) (at : Link) (r s : Reception) (before after : DiskState) (received left : List ℕ) (answer : TaskAnswer) → Receives task at r s before after received left answer → Course r s answer
receives task at r s before after received left answer (fetch.takes got of is takes) = takes_frame task got r s before after answer takes
receives task at r s before after received left answer (fetch.garbled lost broke disk same) = breaks r s answer received broke
receives task at r s before after received left answer (fetch.loses is partial lost disk same told) = loses r s answer lost told
receives task at r s before after received left answer (fetch.waits is partial same disk left_same told) = rests r s answer (ap known same)
receives task at r s before after received left answer (fetch.not_read same disk left_same told) = rests r s answer (ap known same)

-- ---- by the rule

pub course : (which : Rule) (at : Link) (task floor : ℕ) (old new : Requester) (answer : TaskAnswer) → StepsBy which at task floor old new answer → Course old.reception new.reception answer
course rule.Nothing at task floor old new answer steps = rests old.reception new.reception answer (ap (λ (x : Requester). known x.reception) steps.0)
course rule.Stale at task floor old new answer steps = rests old.reception new.reception answer (ap (λ (x : Requester). known x.reception) steps.0)
course rule.Connect at task floor old new answer steps = puts_out rule.Connect task floor old.reception new.reception old.sent new.sent answer steps.0
course (rule.Acknowledge stage) at task floor old new answer steps = puts_out (rule.Acknowledge stage) task floor old.reception new.reception old.sent new.sent answer steps.0
course (rule.Execute stage) at task floor old new answer steps = puts_out (rule.Execute stage) task floor old.reception new.reception old.sent new.sent answer steps.0
course rule.Receive at task floor old new answer steps = receives task at old.reception new.reception old.disk new.disk old.received new.received answer steps.0
course rule.Complete at task floor old new answer steps = completes old.reception new.reception answer old.disk.told new.disk.told old.sent new.sent steps.0

-- ---- once the clone has ended, nothing is to be done

abbrev IsIdle : Rule → Type 0
IsIdle rule.Nothing = ⊤
IsIdle rule.Stale = ⊤
IsIdle other = ⊥

idle_by : (stale part : Bool) (which : Rule) → part ≡ false → IsIdle (if stale then rule.Stale else (if not part then rule.Nothing else which))
idle_by true part which none = tt
idle_by false false which none = tt
idle_by false true which none = absurd cc

no_part : (low running : Bool) (more : Bool) → running ≡ false → (low && running && more) ≡ false
no_part true true more none = absurd cc
no_part true false more none = refl
no_part false running more none = refl

idle_at : (made : Option ℕ) (t : Table) (task : ℕ) (link : Link) → is_running t ≡ false → IsIdle (rule_at made t task link)
idle_at made t task link over =
    idle_by (is_stale made (incarnation_of t) link) (takes_part t task) _ (no_part (nat_lt task t.count) (is_running t) (not (is_done t.phase) || (task == 0)) over)

idle_steps : (which : Rule) (at : Link) (task floor : ℕ) (old new : Requester) (answer : TaskAnswer) → IsIdle which → StepsBy which at task floor old new answer → new ≡ old
idle_steps rule.Nothing at task floor old new answer idle steps = steps.0
idle_steps rule.Stale at task floor old new answer idle steps = steps.0
idle_steps other at task floor old new answer idle steps = absurd idle

pub still : (made : Option ℕ) (at : Link) (task floor : ℕ) (old new : Requester) (answer : TaskAnswer) → is_running old.reception.table ≡ false → StepsBy (rule_at made old.reception.table task at) at task floor old new answer → new ≡ old
still made at task floor old new answer over steps = idle_steps (rule_at made old.reception.table task at) at task floor old new answer (idle_at made old.reception.table task at over) steps
