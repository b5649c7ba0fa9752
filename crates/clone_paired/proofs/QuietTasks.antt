-- A task that finds nothing to do has no rule, or awaits an answer of which less than one is there.
use Rattle.std.proofs.Common.{ℕ, ◌≡◌, ◌∙◌, ◌≤◌, List, Bool, true, false, Option, None, Some, if◌then◌else◌, refl, sym, ap, subst, arith}
use Rattle.std.specs.Prelude.{nat_lt, not, ◌&&◌}
use Rattle.std.proofs.lemmas.Bool.{le-ltb, lt-ltb, or_right}
use Rattle.clone_outside.specs.Disk.{DiskImage}
use Rattle.clone_outside.specs.DiskCalls.{DiskState}
use Rattle.clone_chunk.specs.declared.cause.CloneCause.{CloneCause}
use Rattle.clone_wire.specs.Answers.{BeginsNone}
use Rattle.clone_wire.specs.Spelling.{spelling}
use Rattle.clone_wire.specs.declared.frame.Frame.{Frame}
use Rattle.clone_wire.specs.declared.frame.Side.TheVariants.{Answer}
use Rattle.clone_tasks.specs.Losing.{after_loss, is_spent}
use Rattle.clone_tasks.specs.Rules.{is_absent, is_stale, next_in, rule_at, rule_of, sending_rule, takes_part}
use Rattle.clone_tasks.specs.Tables.{Table, awaits, incarnation_of, is_apart, is_done, is_running, standing_of}
use Rattle.clone_tasks.specs.declared.end.CloneEnd.TheVariants as end
use Rattle.clone_tasks.specs.declared.standing.Phase.{Phase}
use Rattle.clone_tasks.specs.declared.standing.Phase.TheVariants.{Opening, Copying, Done}
use Rattle.clone_tasks.specs.declared.standing.Standing.{Standing}
use Rattle.clone_tasks.specs.declared.rule.Link.{Link}
use Rattle.clone_tasks.specs.declared.rule.Link.TheVariants as link
use Rattle.clone_tasks.specs.declared.rule.Rule.{Rule}
use Rattle.clone_tasks.specs.declared.rule.Rule.TheVariants as rule
use Rattle.clone_recipient.specs.Receptions.{Reception}
use Rattle.clone_fetch.specs.Fetching as fetch
use Rattle.clone_fetch.specs.Fetching.{Breaks, Completes, PutsOut, Receives, Requester, StepsBy, TakesFrame, loss_says, refusal_in, requester, says_of}
use Rattle.clone_fetch.specs.declared.answer.TaskAnswer.{TaskAnswer}
use Rattle.clone_fetch.specs.declared.answer.TaskAnswer.TheVariants as told

-- ---- the rule over a connection, and without one

up_or_lost : (t : Table) (task : ℕ) (at : Link) → is_absent at ≡ false → rule_of t task at ≡ rule_of t task link.Up
up_or_lost t task link.Absent is = absurd (cc (is))
up_or_lost t task link.Up is = refl
up_or_lost t task link.Lost is = refl

by_standing : (t : Table) (task : ℕ) (apart : Bool) → is_apart (standing_of t task) ≡ apart → sending_rule t task ≡ rule_of t task (if apart then link.Absent else link.Up)
by_standing t task apart is = ap (λ (b : Bool). rule_of t task (if b then link.Absent else link.Up)) is

not_earlier : (incarnation : ℕ) → nat_lt incarnation incarnation ≡ false
not_earlier incarnation = le-ltb incarnation incarnation (omega arith)

fresh_made : (t : Table) (at : Link) → is_stale (Some (incarnation_of t)) (incarnation_of t) at ≡ false
fresh_made t link.Absent = refl
fresh_made t link.Up = not_earlier (incarnation_of t)
fresh_made t link.Lost = not_earlier (incarnation_of t)

-- a task that has its connection of the present incarnation
pub rule_over : (t : Table) (task : ℕ) (at : Link) (made : Option ℕ) → made ≡ Some (incarnation_of t) → is_absent at ≡ false → is_apart (standing_of t task) ≡ false → rule_at made t task at ≡ sending_rule t task
rule_over t task at made own there apart =
    ap (λ (b : Bool). if b then rule.Stale else rule_of t task at) (ap (λ (m : Option ℕ). is_stale m (incarnation_of t) at) own ∙ fresh_made t at)
    ∙ up_or_lost t task at there ∙ sym (by_standing t task false apart)

pub rule_apart : (t : Table) (task : ℕ) (made : Option ℕ) → is_apart (standing_of t task) ≡ true → rule_at made t task link.Absent ≡ sending_rule t task
rule_apart t task made apart = sym (by_standing t task true apart)

-- ---- a step that finds nothing to do

abbrev pub IsQuiet : TaskAnswer → Type 0
IsQuiet told.Idle = Unit {0}
IsQuiet told.Stale = Unit {0}
IsQuiet other = ⊥

-- what the rule is then, over the bytes that were received
abbrev pub RestsBy : Rule → Link → List ℕ → Type 0
RestsBy rule.Nothing at received = Unit {0}
RestsBy rule.Stale at received = Unit {0}
RestsBy rule.Receive at received = (fetch.is_lost at ≡ false) × BeginsNone Answer received
RestsBy other at received = ⊥

pub heard : {X : Type 0} (answer other : TaskAnswer) → IsQuiet answer → answer ≡ other → (IsQuiet other → ⊥) → X
heard answer other quiet is never = absurd (never (subst IsQuiet is quiet))

pub puts_loud : {X : Type 0} (which : Rule) (task floor : ℕ) (old new : Reception) (sent put : List ℕ) (answer : TaskAnswer) → PutsOut which task floor old new sent put answer → IsQuiet answer → X
puts_loud which task floor old new sent put answer (fetch.puts next of is sets bytes says) quiet = heard answer _ quiet says (λ q. q)
puts_loud which task floor old new sent put answer (fetch.no_frame sets bytes says) quiet = heard answer _ quiet says (λ q. q)
puts_loud which task floor old new sent put answer (fetch.no_bytes sets bytes says) quiet = heard answer _ quiet says (λ q. q)

pub breaks_loud : {X : Type 0} (bytes : List ℕ) (old new : Reception) (answer : TaskAnswer) → Breaks bytes old new answer → IsQuiet answer → X
breaks_loud bytes old new answer (fetch.breaks kept is sets says) quiet = heard answer _ quiet says (λ q. q)
breaks_loud bytes old new answer (fetch.not_kept sets says) quiet = heard answer _ quiet says (λ q. q)

said_loud : (cause : Option CloneCause) (got : Frame) → IsQuiet (says_of cause got) → ⊥
said_loud None got quiet = quiet
said_loud (Some cause) got quiet = quiet

pub takes_loud : {X : Type 0} (task : ℕ) (got : Frame) (old new : Reception) (before after : DiskState) (answer : TaskAnswer) → TakesFrame task got old new before after answer → IsQuiet answer → X
takes_loud task got old new before after answer (fetch.accepts is takes says) quiet = heard answer _ quiet says (said_loud (refusal_in got) got)
takes_loud task got old new before after answer (fetch.rejects is broken same) quiet = breaks_loud (spelling got) old new answer broken quiet
takes_loud task got old new before after answer (fetch.not_laid is keeps sets says) quiet = heard answer _ quiet says (λ q. q)
takes_loud task got old new before after answer (fetch.no_room is keeps sets says) quiet = heard answer _ quiet says (λ q. q)

pub loss_loud : (t : Table) (spent : Bool) → IsQuiet (if spent then told.Ended (end.Spent t.losses) else told.Lost t.losses) → ⊥
loss_loud t true quiet = quiet
loss_loud t false quiet = quiet

receives_rests : (task : ℕ) (at : Link) (old new : Reception) (before after : DiskState) (received left : List ℕ) (answer : TaskAnswer) → Receives task at old new before after received left answer → IsQuiet answer → (fetch.is_lost at ≡ false) × BeginsNone Answer received
receives_rests task at old new before after received left answer (fetch.takes got of is takes) quiet = takes_loud task got old new before after answer takes quiet
receives_rests task at old new before after received left answer (fetch.garbled lost broken same keeps) quiet = breaks_loud received old new answer broken quiet
receives_rests task at old new before after received left answer (fetch.loses lost part sets same keeps says) quiet = heard answer _ quiet says (loss_loud (after_loss old.table) (is_spent (after_loss old.table)))
receives_rests task at old new before after received left answer (fetch.waits up part sets same keeps says) quiet = (up, part.0)
receives_rests task at old new before after received left answer (fetch.not_read sets same keeps says) quiet = heard answer _ quiet says (λ q. q)

pub completes_loud : {X : Type 0} (old new : Reception) (told_old now : Option DiskImage) (sent put : List ℕ) (answer : TaskAnswer) → Completes old new told_old now sent put answer → IsQuiet answer → X
completes_loud old new told_old now sent put answer (fetch.completes last is steps sets bytes says) quiet = heard answer _ quiet says (λ q. q)
completes_loud old new told_old now sent put answer (fetch.not_completed last is steps sets bytes says) quiet = heard answer _ quiet says (λ q. q)
completes_loud old new told_old now sent put answer (fetch.not_marked last is steps sets bytes says) quiet = heard answer _ quiet says (λ q. q)
completes_loud old new told_old now sent put answer (fetch.not_left last is steps sets bytes says) quiet = heard answer _ quiet says (λ q. q)

pub steps_rests : (which : Rule) (at : Link) (task floor : ℕ) (old new : Requester) (answer : TaskAnswer) → StepsBy which at task floor old new answer → IsQuiet answer → RestsBy which at old.received
steps_rests rule.Nothing at task floor old new answer s quiet = tt
steps_rests rule.Stale at task floor old new answer s quiet = tt
steps_rests rule.Connect at task floor old new answer s quiet = puts_loud rule.Connect task floor old.reception new.reception old.sent new.sent answer s.0 quiet
steps_rests (rule.Acknowledge stage) at task floor old new answer s quiet = puts_loud (rule.Acknowledge stage) task floor old.reception new.reception old.sent new.sent answer s.0 quiet
steps_rests (rule.Execute stage) at task floor old new answer s quiet = puts_loud (rule.Execute stage) task floor old.reception new.reception old.sent new.sent answer s.0 quiet
steps_rests rule.Receive at task floor old new answer s quiet = receives_rests task at old.reception new.reception old.disk new.disk old.received new.received answer s.0 quiet
steps_rests rule.Complete at task floor old new answer s quiet = completes_loud old.reception new.reception old.disk.told new.disk.told old.sent new.sent answer s.0 quiet

-- ---- once all was copied

done_phase : (t : Table) (phase : Phase) (standing : Standing) → is_done phase ≡ true → next_in phase t 0 standing ≡ rule.Complete
done_phase t Opening standing is = absurd (cc (is))
done_phase t (Copying stage) standing is = absurd (cc (is))
done_phase t Done standing is = refl

pub no_way : (a : Bool) → (a && false) ≡ false
no_way true = refl
no_way false = refl

done_part : (t : Table) → 1 ≤ t.count → is_running t ≡ true → takes_part t 0 ≡ true
done_part t some running = rw (lt-ltb 0 t.count (omega (arith, some)), running) (or_right (not (is_done t.phase)) true refl)

done_rule : (t : Table) (at : Link) → takes_part t 0 ≡ true → is_done t.phase ≡ true → awaits (standing_of t 0) ≡ false → rule_of t 0 at ≡ rule.Complete
done_rule t at part done rests = rw (part, done, no_way (is_absent at), rests) (done_phase t t.phase (standing_of t 0) done)

-- task 0 completes the clone, over a connection of this incarnation and without one
pub complete_over : (t : Table) (at : Link) (made : Option ℕ) → 1 ≤ t.count → is_running t ≡ true → is_done t.phase ≡ true → awaits (standing_of t 0) ≡ false → made ≡ Some (incarnation_of t) → rule_at made t 0 at ≡ rule.Complete
complete_over t at made some running done rests own =
    ap (λ (b : Bool). if b then rule.Stale else rule_of t 0 at) (ap (λ (m : Option ℕ). is_stale m (incarnation_of t) at) own ∙ fresh_made t at)
    ∙ done_rule t at (done_part t some running) done rests

pub complete_apart : (t : Table) (made : Option ℕ) → 1 ≤ t.count → is_running t ≡ true → is_done t.phase ≡ true → awaits (standing_of t 0) ≡ false → rule_at made t 0 link.Absent ≡ rule.Complete
complete_apart t made some running done rests = done_rule t link.Absent (done_part t some running) done rests
