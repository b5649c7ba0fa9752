-- A step of a task ends a clone that goes on, counts a loss, sends what may set the floor, or
-- changes nothing of these.
use Rattle.std.proofs.Common.{ℕ, ◌≡◌, ◌≢◌, ◌∙◌, ◌+◌, ◌<◌, Bool, true, false, Option, List, None, Some, inl, inr, refl, ap, subst, sym}
use Rattle.std.specs.Prelude.{◌==◌, ◌&&◌, ◌||◌, not, nat_lt}
use Rattle.std.specs.Option.{unwrap_or}
use Rattle.std.proofs.lemmas.Bool.{cases_Bool, and_parts, both_ways, ltb-true}
use Rattle.clone_outside.specs.Disk.{DiskImage}
use Rattle.clone_outside.specs.DiskCalls.{DiskState}
use Rattle.clone_chunk.specs.declared.copy_stage.CopyStage.TheVariants as copy
use Rattle.clone_chunk.specs.declared.plan.StagePlan.{StagePlan}
use Rattle.clone_chunk.specs.declared.plan.StagePlan.TheVariants as plan
use Rattle.clone_wire.specs.declared.frame.Frame.{Frame}
use Rattle.clone_wire.specs.declared.frame.Frame.TheVariants as frame
use Rattle.clone_wire.specs.Spelling.{spelling}
use Rattle.clone_tasks.specs.Awaiting.{moves}
use Rattle.clone_tasks.specs.Losing.{after_loss, is_spent}
use Rattle.clone_tasks.specs.Rules.{is_stale, rule_at, takes_part}
use Rattle.clone_tasks.specs.Tables.{Table, incarnation_of, is_done, is_running}
use Rattle.clone_tasks.specs.declared.end.CloneEnd.{CloneEnd}
use Rattle.clone_tasks.specs.declared.end.CloneEnd.TheVariants as end
use Rattle.clone_tasks.specs.declared.rule.Link.{Link}
use Rattle.clone_tasks.specs.declared.rule.Link.TheVariants.{Absent}
use Rattle.clone_tasks.specs.declared.rule.Rule.{Rule}
use Rattle.clone_tasks.specs.declared.rule.Rule.TheVariants as rule
use Rattle.clone_recipient.specs.Receptions.{Reception}
use Rattle.clone_recipient.specs.Taking.{HasMarked, Takes, TakesStage, moved_by}
use Rattle.clone_fetch.specs.Fetching as fetch
use Rattle.clone_fetch.specs.Fetching.{Breaks, Completes, PutsOut, Receives, Requester, StepsBy, TakesFrame, ended_as, loss_says, refusal_in, says_of, with_loss, with_sent}
use Rattle.clone_fetch.specs.declared.answer.TaskAnswer.{TaskAnswer}
use Rattle.clone_fetch.specs.declared.answer.TaskAnswer.TheVariants as told
use Rattle.clone_network.specs.Connections.{link_over}
use Rattle.clone_network.specs.Courses.{IsFloor, IsSpentBy, KeepsTerms, first, ended_then, kept}
use Rattle.clone_network.specs.Networks.{Network, StepsTask}
use Rattle.clone_network.specs.Networks as network

-- what no step changes
pub record Terms : Type 0 where
  pub session : ℕ
  pub version : ℕ
  pub count : ℕ
  pub limit : ℕ
  pub recovered : Bool

abbrev pub terms_of : Reception → Terms
terms_of r = record { session = r.table.session; version = r.table.version; count = r.table.count; limit = r.table.limit; recovered = r.recovered }

-- and how the clone ended and its floor
pub record Known : Type 0 where
  pub ended : Option CloneEnd
  pub floor : Option ℕ
  pub terms : Terms

abbrev pub course_of : Reception → Known
course_of r = record { ended = r.table.ended; floor = r.table.floor; terms = terms_of r }

-- ALL that a step changes of these
pub record Course (looked : ℕ) (r s : Reception) (answer : TaskAnswer) : Type 0 where
  pub ended : s.table.ended ≡ ended_then answer r.table.ended
  pub once : (how : CloneEnd) → answer ≡ told.Ended how → is_running r.table ≡ true
  pub floor : IsFloor looked answer r.table.floor s.table.floor
  pub terms : terms_of s ≡ terms_of r
  pub spent : (losses : ℕ) → answer ≡ told.Ended (end.Spent losses) → IsSpentBy losses r.table s.table

pub keeps_terms : (r s : Reception) → terms_of s ≡ terms_of r → KeepsTerms r.table s.table
keeps_terms r s same = record {
  session = ap (λ (t : Terms). t.session) same;
  version = ap (λ (t : Terms). t.version) same;
  count = ap (λ (t : Terms). t.count) same;
  limit = ap (λ (t : Terms). t.limit) same;
}

-- ---- the clone goes on

abbrev ends_by : TaskAnswer → Bool
ends_by (told.Ended how) = true
ends_by other = false

never : (answer : TaskAnswer) → ends_by answer ≡ false → (how : CloneEnd) → answer ≢ told.Ended how
never answer goes how heard = both_ways (ends_by answer) goes (ap ends_by heard)

ended_before : (answer : TaskAnswer) (before : Option CloneEnd) → ends_by answer ≡ false → ended_then answer before ≡ before
ended_before (told.Ended how) before goes = absurd (cc)
ended_before told.Idle before goes = refl
ended_before told.Stale before goes = refl
ended_before (told.Sent code) before goes = refl
ended_before (told.Took took) before goes = refl
ended_before (told.Lost losses) before goes = refl
ended_before told.NoMemory before goes = refl

goes_on : (looked : ℕ) (r s : Reception) (answer : TaskAnswer) → ends_by answer ≡ false → s.table.ended ≡ r.table.ended → IsFloor looked answer r.table.floor s.table.floor → terms_of s ≡ terms_of r → Course looked r s answer
goes_on looked r s answer goes same floor terms = record {
  ended = same ∙ sym (ended_before answer r.table.ended goes);
  once = λ how heard. absurd (never answer goes how heard);
  floor = floor;
  terms = terms;
  spent = λ losses heard. absurd (never answer goes (end.Spent losses) heard);
}

rests : (looked : ℕ) (r s : Reception) (answer : TaskAnswer) → ends_by answer ≡ false → course_of s ≡ course_of r → Course looked r s answer
rests looked r s answer goes same = goes_on looked r s answer goes (ap (λ (k : Known). k.ended) same) (kept (ap (λ (k : Known). k.floor) same)) (ap (λ (k : Known). k.terms) same)

-- ---- the clone ends

ends : (looked : ℕ) (r s x : Reception) (answer : TaskAnswer) (how : CloneEnd) → is_running r.table ≡ true → course_of x ≡ course_of r → s ≡ ended_as how x → answer ≡ told.Ended how → ((losses : ℕ) → how ≡ end.Spent losses → IsSpentBy losses r.table s.table) → Course looked r s answer
ends looked r s x answer how runs same is heard spent = record {
  ended = ap (λ (y : Reception). y.table.ended) is ∙ sym (ap (λ (a : TaskAnswer). ended_then a r.table.ended) heard);
  once = λ which again. runs;
  floor = kept (ap (λ (y : Reception). y.table.floor) is ∙ ap (λ (k : Known). k.floor) same);
  terms = ap terms_of is ∙ ap (λ (k : Known). k.terms) same;
  spent = λ losses again. spent losses (cc);
}

abbrev by_losses : CloneEnd → Bool
by_losses (end.Spent losses) = true
by_losses other = false

-- otherwise than by its losses
ends_so : (looked : ℕ) (r s x : Reception) (answer : TaskAnswer) (how : CloneEnd) → is_running r.table ≡ true → course_of x ≡ course_of r → s ≡ ended_as how x → answer ≡ told.Ended how → by_losses how ≡ false → Course looked r s answer
ends_so looked r s x answer how runs same is heard other = ends looked r s x answer how runs same is heard (λ losses spent. absurd (both_ways (by_losses how) other (ap by_losses spent)))

breaks_off : (looked : ℕ) (bytes : List ℕ) (r s : Reception) (answer : TaskAnswer) → is_running r.table ≡ true → Breaks bytes r s answer → Course looked r s answer
breaks_off looked bytes r s answer runs (fetch.breaks found is ended heard) = ends_so looked r s r answer _ runs refl ended heard refl
breaks_off looked bytes r s answer runs (fetch.not_kept same heard) = rests looked r s answer (ap ends_by heard) (ap course_of same)

completes_so : (looked : ℕ) (r s : Reception) (before now : Option DiskImage) (sent put : List ℕ) (answer : TaskAnswer) → is_running r.table ≡ true → Completes r s before now sent put answer → Course looked r s answer
completes_so looked r s before now sent put answer runs (fetch.completes last is steps ended puts heard) = ends_so looked r s (record r { synced = true }) answer _ runs refl ended heard refl
completes_so looked r s before now sent put answer runs (fetch.not_completed last is steps ended puts heard) = ends_so looked r s r answer _ runs refl ended heard refl
completes_so looked r s before now sent put answer runs (fetch.not_marked last is steps same puts heard) = rests looked r s answer (ap ends_by heard) (ap course_of same)
completes_so looked r s before now sent put answer runs (fetch.not_left last is steps same puts heard) = rests looked r s answer (ap ends_by heard) (ap course_of same)

-- ---- a frame is put out

first_floor : (looked : ℕ) (answer : TaskAnswer) (before : Option ℕ) → ends_by answer ≡ false → IsFloor looked answer before (Some (unwrap_or before looked))
first_floor looked answer None goes = first refl refl (never answer goes)
first_floor looked answer (Some floor) goes = kept refl

sent_so : (which : Rule) (task looked : ℕ) (r : Reception) (answer : TaskAnswer) → ends_by answer ≡ false → Course looked r (with_sent which task looked r) answer
sent_so rule.Nothing task looked r answer goes = rests looked r _ answer goes refl
sent_so rule.Stale task looked r answer goes = rests looked r _ answer goes refl
sent_so rule.Receive task looked r answer goes = rests looked r _ answer goes refl
sent_so rule.Complete task looked r answer goes = rests looked r _ answer goes refl
sent_so rule.Connect task looked r answer goes = rests looked r _ answer goes refl
sent_so (rule.Execute stage) task looked r answer goes = rests looked r _ answer goes refl
sent_so (rule.Acknowledge copy.FileCopy) task looked r answer goes = rests looked r _ answer goes refl
sent_so (rule.Acknowledge copy.PageCopy) task looked r answer goes = goes_on looked r _ answer goes refl (first_floor looked answer r.table.floor goes) refl
sent_so (rule.Acknowledge copy.RedoCopy) task looked r answer goes = rests looked r _ answer goes refl

puts_out : (which : Rule) (task looked : ℕ) (r s : Reception) (sent put : List ℕ) (answer : TaskAnswer) → PutsOut which task looked r s sent put answer → Course looked r s answer
puts_out which task looked r s sent put answer (fetch.puts next of is after out heard) = subst (λ (x : Reception). Course looked r x answer) (sym after) (sent_so which task looked r answer (ap ends_by heard))
puts_out which task looked r s sent put answer (fetch.no_frame same out heard) = rests looked r s answer (ap ends_by heard) (ap course_of same)
puts_out which task looked r s sent put answer (fetch.no_bytes after out heard) = subst (λ (x : Reception). Course looked r x answer) (sym after) (sent_so which task looked r answer (ap ends_by heard))

-- ---- a frame is taken

moved_so : (p : StagePlan) (r : Reception) → course_of (moved_by p r) ≡ course_of r
moved_so (plan.FileCopy chunks spaces) r = refl
moved_so (plan.PageCopy chunks position spaces) r = refl
moved_so (plan.RedoCopy chunks checkpoint lsn position) r = refl
moved_so (plan.Done checkpoint lsn position) r = refl

took_stage : (moved : Bool) (p : StagePlan) (task : ℕ) (r s : Reception) (before now : Option DiskImage) → TakesStage moved p task r s before now → course_of s ≡ course_of r
took_stage true p task r s before now takes = ap course_of takes.0 ∙ moved_so p r
took_stage false p task r s before now takes = ap course_of takes.0

took_block : (chunk block : ℕ) (r s : Reception) → HasMarked chunk block r s → course_of s ≡ course_of r
took_block chunk block r s marked = ap course_of marked.else_same ∙ ap (λ (t : Table). course_of (record r { table = t })) marked.table.else_same

accepts_so : (looked task : ℕ) (got : Frame) (r s : Reception) (before now : Option DiskImage) (answer : TaskAnswer) → is_running r.table ≡ true → Takes got task r s before now → answer ≡ says_of (refusal_in got) got → Course looked r s answer
accepts_so looked task (frame.Init attempt version page_size compressed tasks) r s before now answer runs takes heard = absurd takes
accepts_so looked task (frame.Attach attempt other) r s before now answer runs takes heard = absurd takes
accepts_so looked task (frame.Reinit attempt stage finished) r s before now answer runs takes heard = absurd takes
accepts_so looked task (frame.Reinit2 attempt stage taken) r s before now answer runs takes heard = absurd takes
accepts_so looked task (frame.Execute stage) r s before now answer runs takes heard = absurd takes
accepts_so looked task (frame.Ack stage floor) r s before now answer runs takes heard = absurd takes
accepts_so looked task frame.Exit r s before now answer runs takes heard = absurd takes
accepts_so looked task (frame.Stage attempt p) r s before now answer runs takes heard = rests looked r s answer (ap ends_by heard) (took_stage (moves r.table task) p task r s before now takes)
accepts_so looked task (frame.Pages attempt stage chunk block pages) r s before now answer runs takes heard = rests looked r s answer (ap ends_by heard) (took_block chunk block r s takes.0)
accepts_so looked task (frame.Redo attempt chunk block from bytes) r s before now answer runs takes heard = rests looked r s answer (ap ends_by heard) (took_block chunk block r s takes.0)
accepts_so looked task (frame.End attempt stage) r s before now answer runs takes heard = rests looked r s answer (ap ends_by heard) (ap course_of takes.0)
accepts_so looked task (frame.Refused cause) r s before now answer runs takes heard = ends_so looked r s r answer (end.Refused cause) runs refl takes.0 heard refl

takes_frame : (looked task : ℕ) (got : Frame) (r s : Reception) (before after : DiskState) (answer : TaskAnswer) → is_running r.table ≡ true → TakesFrame task got r s before after answer → Course looked r s answer
takes_frame looked task got r s before after answer runs (fetch.accepts expected takes heard) = accepts_so looked task got r s before.told after.told answer runs takes heard
takes_frame looked task got r s before after answer runs (fetch.rejects other broke same) = breaks_off looked (spelling got) r s answer runs broke
takes_frame looked task got r s before after answer runs (fetch.not_laid expected keeps ended heard) = ends_so looked r s (record r { sizes = s.sizes }) answer _ runs refl ended heard refl
takes_frame looked task got r s before after answer runs (fetch.no_room expected keeps same heard) = rests looked r s answer (ap ends_by heard) (ap course_of same)

-- ---- a loss is counted

spent_by : (t u : Table) (losses : ℕ) → is_spent (after_loss t) ≡ true → u.losses ≡ t.losses + 1 → losses ≡ t.losses + 1 → IsSpentBy losses t u
spent_by t u losses over counted one_more = record {
  one_more = one_more;
  counted = counted ∙ sym one_more;
  too_many = subst (λ (n : ℕ). t.limit < n) (sym one_more) (ltb-true t.limit (t.losses + 1) over);
}

loses_so : (looked : ℕ) (r s : Reception) (answer : TaskAnswer) → is_running r.table ≡ true → s ≡ with_loss r → answer ≡ loss_says (after_loss r.table) → Course looked r s answer
loses_so looked r s answer runs lost heard =
    let t = after_loss r.table in
    elim (cases_Bool (is_spent t)) [
      | inl over ↦
          let is : s ≡ ended_as (end.Spent t.losses) (record r { table = t }) = rw over at lost in
          let says : answer ≡ told.Ended (end.Spent t.losses) = rw over at heard in
          ends looked r s (record r { table = t }) answer (end.Spent t.losses) runs refl is says (λ losses spent. spent_by r.table s.table losses over (ap (λ (x : Reception). x.table.losses) is) (cc))
      | inr more ↦
          let is : s ≡ record r { table = t } = rw more at lost in
          let says : answer ≡ told.Lost t.losses = rw more at heard in
          rests looked r s answer (ap ends_by says) (ap course_of is)
    ]

receives : (looked task : ℕ) (at : Link) (r s : Reception) (before after : DiskState) (received left : List ℕ) (answer : TaskAnswer) → is_running r.table ≡ true → Receives task at r s before after received left answer → Course looked r s answer
receives looked task at r s before after received left answer runs (fetch.takes got of is takes) = takes_frame looked task got r s before after answer runs takes
receives looked task at r s before after received left answer runs (fetch.garbled lost broke disk same) = breaks_off looked received r s answer runs broke
receives looked task at r s before after received left answer runs (fetch.loses is partial lost disk same heard) = loses_so looked r s answer runs lost heard
receives looked task at r s before after received left answer runs (fetch.waits is partial same disk left_same heard) = rests looked r s answer (ap ends_by heard) (ap course_of same)
receives looked task at r s before after received left answer runs (fetch.not_read same disk left_same heard) = rests looked r s answer (ap ends_by heard) (ap course_of same)

-- ---- by the rule

-- the rules by which something is to be done
abbrev acts : Rule → Bool
acts rule.Nothing = false
acts rule.Stale = false
acts other = true

-- they apply only while the clone goes on
idle_apart : (made : Option ℕ) (t : Table) (task : ℕ) (link : Link) → takes_part t task ≡ false → acts (rule_at made t task link) ≡ false
idle_apart made t task link none =
    elim (cases_Bool (is_stale made (incarnation_of t) link)) [
      | inl stale ↦ rw stale refl
      | inr fresh ↦ rw (fresh, none) refl
    ]

acting_runs : (made : Option ℕ) (t : Table) (task : ℕ) (link : Link) → acts (rule_at made t task link) ≡ true → is_running t ≡ true
acting_runs made t task link active =
    elim (cases_Bool (takes_part t task)) [
      | inl part ↦ (and_parts (nat_lt task t.count) (is_running t) (and_parts (nat_lt task t.count && is_running t) (not (is_done t.phase) || (task == 0)) part).0).1
      | inr none ↦ absurd (both_ways (acts (rule_at made t task link)) (idle_apart made t task link none) active)
    ]

steps_so : (which : Rule) (at : Link) (task looked : ℕ) (old new : Requester) (answer : TaskAnswer) → (acts which ≡ true → is_running old.reception.table ≡ true) → StepsBy which at task looked old new answer → Course looked old.reception new.reception answer
steps_so rule.Nothing at task looked old new answer runs (same, heard) = rests looked old.reception new.reception answer (ap ends_by heard) (ap (λ (x : Requester). course_of x.reception) same)
steps_so rule.Stale at task looked old new answer runs (same, heard) = rests looked old.reception new.reception answer (ap ends_by heard) (ap (λ (x : Requester). course_of x.reception) same)
steps_so rule.Connect at task looked old new answer runs steps = puts_out rule.Connect task looked old.reception new.reception old.sent new.sent answer steps.0
steps_so (rule.Acknowledge stage) at task looked old new answer runs steps = puts_out (rule.Acknowledge stage) task looked old.reception new.reception old.sent new.sent answer steps.0
steps_so (rule.Execute stage) at task looked old new answer runs steps = puts_out (rule.Execute stage) task looked old.reception new.reception old.sent new.sent answer steps.0
steps_so rule.Receive at task looked old new answer runs steps = receives looked task at old.reception new.reception old.disk new.disk old.received new.received answer (runs refl) steps.0
steps_so rule.Complete at task looked old new answer runs steps = completes_so looked old.reception new.reception old.disk.told new.disk.told old.sent new.sent answer (runs refl) steps.0

pub course : (r s : Reception) (d e : DiskState) (n m : Network) (task looked : ℕ) (answer : TaskAnswer) → StepsTask task looked r s d e n m answer → Course looked r s answer
course r s d e n m task looked answer (network.over seat number at after made here has there f is) =
    steps_so (rule_at seat.made r.table task (link_over at)) (link_over at) task looked _ _ answer (acting_runs seat.made r.table task (link_over at)) f.steps
course r s d e n m task looked answer (network.apart seat after connections here has c is) =
    steps_so (rule_at seat.made r.table task Absent) Absent task looked _ _ answer (acting_runs seat.made r.table task Absent) c.steps
course r s d e n m task looked answer (network.absent here same heard) = rests looked r s answer (ap ends_by heard) (ap course_of same.reception)
course r s d e n m task looked answer (network.no_room same heard) = rests looked r s answer (ap ends_by heard) (ap course_of same.reception)
