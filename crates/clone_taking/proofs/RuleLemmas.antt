-- The rules of a clone that has ended, and of a task that completes it.
use Rattle.std.proofs.Common.{ℕ, ◌≡◌, ◌∙◌, ◌==◌, Bool, true, false, Option, refl, sym, ap, subst}
use Rattle.std.specs.Prelude.{◌&&◌, ◌||◌, not, nat_lt, is_some, if◌then◌else◌}
use Rattle.std.proofs.lemmas.Bool.{and_left, and_parts, and_right, eqb-true}
use Rattle.clone_chunk.specs.declared.copy_stage.CopyStage.{CopyStage}
use Rattle.clone_tasks.specs.Rules.{acknowledges, asks, connecting, is_absent, is_stale, next_in, rule_at, rule_of, takes_part}
use Rattle.clone_tasks.specs.Tables.{Table, awaits, incarnation_of, is_apart, is_done, is_running, standing_of}
use Rattle.clone_tasks.specs.declared.rule.Link.{Link}
use Rattle.clone_tasks.specs.declared.rule.Rule.{Rule}
use Rattle.clone_tasks.specs.declared.rule.Rule.TheVariants as rule
use Rattle.clone_tasks.specs.declared.standing.Phase.{Phase}
use Rattle.clone_tasks.specs.declared.standing.Phase.TheVariants.{Opening, Copying, Done}
use Rattle.clone_tasks.specs.declared.standing.Standing.{Standing}
use Rattle.clone_fetch.specs.Fetching.{Requester, StepsBy}
use Rattle.clone_fetch.specs.declared.answer.TaskAnswer.{TaskAnswer}

-- ---- after the end

idle : (t : Table) (task : ℕ) (at : Link) → is_some t.ended ≡ true → rule_of t task at ≡ rule.Nothing
idle t task at ended =
    let none : takes_part t task ≡ false = and_left (nat_lt task t.count && is_running t) (not (is_done t.phase) || (task == 0)) (and_right (nat_lt task t.count) (is_running t) (ap not ended)) in
    rw none refl

-- a step changes nothing
pub ended_rests : (made : Option ℕ) (t : Table) (task floor : ℕ) (at : Link) (old new : Requester) (answer : TaskAnswer) → is_some t.ended ≡ true → StepsBy (rule_at made t task at) at task floor old new answer → new ≡ old
ended_rests made t task floor at old new answer ended steps = by (is_stale made (incarnation_of t) at) steps
  where
    by : (stale : Bool) → StepsBy (if stale then rule.Stale else rule_of t task at) at task floor old new answer → new ≡ old
    by true steps = steps.0
    by false steps = (subst (λ (which : Rule). StepsBy which at task floor old new answer) (idle t task at ended) steps).0

-- ---- task 0 alone completes the clone

copying_on : (stage : CopyStage) (all ask : Bool) → (if all then rule.Acknowledge stage else (if ask then rule.Execute stage else rule.Nothing)) ≡ rule.Complete → ⊥
copying_on stage true ask is = cc
copying_on stage false true is = cc
copying_on stage false false is = cc

next_done : (phase : Phase) (t : Table) (task : ℕ) (standing : Standing) → next_in phase t task standing ≡ rule.Complete → is_done phase ≡ true
next_done Opening t task standing is = cc
next_done (Copying stage) t task standing is = absurd (copying_on stage (acknowledges t task standing) (asks t standing) is)
next_done Done t task standing is = refl

connects_on : (may : Bool) → (if may then rule.Connect else rule.Nothing) ≡ rule.Complete → ⊥
connects_on true is = cc
connects_on false is = cc

part_done : (part absent awaiting : Bool) (phase : Phase) (t : Table) (task : ℕ) (standing : Standing)
    → (if not part then rule.Nothing else (if absent then connecting t task standing else (if awaiting then rule.Receive else next_in phase t task standing))) ≡ rule.Complete
    → (part ≡ true) × (is_done phase ≡ true)
part_done false absent awaiting phase t task standing is = absurd cc
part_done true true awaiting phase t task standing is = absurd (connects_on (is_apart standing && ((task == 0) || t.joined)) is)
part_done true false true phase t task standing is = absurd cc
part_done true false false phase t task standing is = (refl, next_done phase t task standing is)

pub complete_first : (made : Option ℕ) (t : Table) (task : ℕ) (at : Link) → rule_at made t task at ≡ rule.Complete → task ≡ 0
complete_first made t task at is = by (is_stale made (incarnation_of t) at) is
  where
    by : (stale : Bool) → (if stale then rule.Stale else rule_of t task at) ≡ rule.Complete → task ≡ 0
    by true is = cc
    by false is =
        let both = part_done (takes_part t task) (is_absent at && not (is_done t.phase)) (awaits (standing_of t task)) t.phase t task (standing_of t task) is in
        let may = and_parts (nat_lt task t.count && is_running t) (not (is_done t.phase) || (task == 0)) both.0 in
        eqb-true task 0 (sym (ap (λ (done : Bool). not done || (task == 0)) both.1) ∙ may.1)
