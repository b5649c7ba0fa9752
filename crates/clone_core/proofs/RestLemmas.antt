-- A clone that has ended rests: no step of a task changes anything of it.
use Rattle.std.proofs.Common.{◌≡◌, ◌∙◌, ◌⊎◌, ◌&&◌, ◌||◌, inl, inr, ℕ, List, Bool, true, false, not, nat_lt, if◌then◌else◌, refl, sym, ap, subst, Option, Some, None}
use Rattle.std.specs.Prelude.{◌==◌}
use Rattle.clone_outside.specs.DiskCalls.{DiskState}
use Rattle.clone_tasks.specs.Rules.{is_stale, rule_at, rule_of, takes_part}
use Rattle.clone_tasks.specs.Tables.{Table, incarnation_of, is_done, is_running}
use Rattle.clone_tasks.specs.declared.rule.Link.{Link}
use Rattle.clone_tasks.specs.declared.rule.Link.TheVariants.{Absent}
use Rattle.clone_tasks.specs.declared.rule.Rule.{Rule}
use Rattle.clone_tasks.specs.declared.rule.Rule.TheVariants as rule
use Rattle.clone_recipient.specs.Receptions.{Reception}
use Rattle.clone_outside.specs.Disk.{DiskImage, ForTold}
use Rattle.clone_tasks.specs.declared.end.CloneEnd as tasks
use Rattle.clone_fetch.specs.Fetching as fetch
use Rattle.clone_fetch.specs.Fetching.{Completes, Requester, StepsBy}
use Rattle.clone_fetch.specs.declared.answer.TaskAnswer.TheVariants as told_as
use Rattle.clone_joined.specs.Joined.{IsInProgress}
use Rattle.clone_joined.proofs.MarkLemmas.{Leaves, completing, marked_still, staying, step_leaves}
use Rattle.clone_core.specs.declared.world.TheConstants.{SESSION}
use Rattle.clone_fetch.specs.declared.answer.TaskAnswer.{TaskAnswer}
use Rattle.clone_network.specs.Networks as network
use Rattle.clone_network.specs.Networks.{Network, StepsTask}
use Rattle.clone_network.specs.Connections.{link_over}

none_takes : (a b : Bool) → (a && false && b) ≡ false
none_takes true b = refl
none_takes false b = refl

no_part : (t : Table) (task : ℕ) → is_running t ≡ false → takes_part t task ≡ false
no_part t task over =
    let rest = not (is_done t.phase) || (task == 0) in
    ap (λ (b : Bool). nat_lt task t.count && b && rest) over ∙ none_takes (nat_lt task t.count) rest

chosen : (b : Bool) (x y : Rule) → b ≡ true → (if b then x else y) ≡ x
chosen b x y is = ap (λ (c : Bool). if c then x else y) is

pub rule_rests : (made : Option ℕ) (t : Table) (task : ℕ) (link : Link) → is_running t ≡ false → (rule_at made t task link ≡ rule.Nothing) ⊎ (rule_at made t task link ≡ rule.Stale)
rule_rests made t task link over = by (is_stale made (incarnation_of t) link)
  where
    none : rule_of t task link ≡ rule.Nothing
    none = chosen _ _ _ (ap not (no_part t task over))

    by : (b : Bool) → ((if b then rule.Stale else rule_of t task link) ≡ rule.Nothing) ⊎ ((if b then rule.Stale else rule_of t task link) ≡ rule.Stale)
    by true = inr refl
    by false = inl none

same_requester : (which : Rule) (link : Link) (task looked : ℕ) (a b : Requester) (says : TaskAnswer) → (which ≡ rule.Nothing) ⊎ (which ≡ rule.Stale) → StepsBy which link task looked a b says → b ≡ a
same_requester which link task looked a b says (inl is) steps = let P : Rule → Type 0 = λ w. StepsBy w link task looked a b says in (subst P is steps).0
same_requester which link task looked a b says (inr is) steps = let P : Rule → Type 0 = λ w. StepsBy w link task looked a b says in (subst P is steps).0

pub task_rests : (r s : Reception) (d e : DiskState) (n m : Network) (task looked : ℕ) (says : TaskAnswer) → is_running r.table ≡ false → StepsTask task looked r s d e n m says → (s ≡ r) × (e ≡ d)
task_rests r s d e n m task looked says over (network.over seat number at new made sits has here f is) =
    let same = same_requester _ (link_over at) task looked _ _ says (rule_rests seat.made r.table task (link_over at) over) f.steps in
    (ap (λ (x : Requester). x.reception) same, ap (λ (x : Requester). x.disk) same)
task_rests r s d e n m task looked says over (network.apart seat next connections sits none c is) =
    let same = same_requester _ Absent task looked _ _ says (rule_rests seat.made r.table task Absent over) c.steps in
    (ap (λ (x : Requester). x.reception) same, ap (λ (x : Requester). x.disk) same)
task_rests r s d e n m task looked says over (network.absent none rests idle) = (rests.reception, rests.disk)
task_rests r s d e n m task looked says over (network.no_room rests heard) = (rests.reception, rests.disk)

-- ---- a clone that goes on keeps the mark of its disk

ended_none : (how : tasks.CloneEnd) (now : Option tasks.CloneEnd) → now ≡ Some how → now ≡ None → ⊥
ended_none how now some none = absurd (let both : Some how ≡ None = sym some ∙ none in cc)

not_completing : (a b : Reception) (told now : Option DiskImage) (sent put : List ℕ) (says : TaskAnswer) → Completes a b told now sent put says → (says ≡ told_as.NoMemory → ⊥) → b.table.ended ≡ None → ⊥
not_completing a b told now sent put says (fetch.completes last is steps ended bytes heard) memory goes = ended_none _ b.table.ended (ap (λ (x : Reception). x.table.ended) ended) goes
not_completing a b told now sent put says (fetch.not_completed last is steps ended bytes heard) memory goes = ended_none _ b.table.ended (ap (λ (x : Reception). x.table.ended) ended) goes
not_completing a b told now sent put says (fetch.not_marked last is steps same bytes heard) memory goes = memory heard
not_completing a b told now sent put says (fetch.not_left last is steps same bytes heard) memory goes = memory heard

requester_marked : (which : Rule) (a b : Requester) (says : TaskAnswer) → Leaves which a b says → (says ≡ told_as.NoMemory → ⊥) → b.reception.table.ended ≡ None → ForTold a.disk.told (IsInProgress SESSION) → ForTold b.disk.told (IsInProgress SESSION)
requester_marked which a b says (staying keeps) memory goes is = marked_still SESSION a.disk.told b.disk.told keeps is
requester_marked which a b says (completing rule_is done) memory goes is = absurd (not_completing a.reception b.reception a.disk.told b.disk.told a.sent b.sent says done memory goes)

pub task_marked : (r s : Reception) (d e : DiskState) (n m : Network) (task looked : ℕ) (says : TaskAnswer) → StepsTask task looked r s d e n m says → (says ≡ told_as.NoMemory → ⊥) → s.table.ended ≡ None → ForTold d.told (IsInProgress SESSION) → ForTold e.told (IsInProgress SESSION)
task_marked r s d e n m task looked says (network.over seat number at new made sits has here f is) memory goes marked = requester_marked _ _ _ says (step_leaves _ (link_over at) task looked _ _ says f.steps) memory goes marked
task_marked r s d e n m task looked says (network.apart seat next connections sits none c is) memory goes marked = requester_marked _ _ _ says (step_leaves _ Absent task looked _ _ says c.steps) memory goes marked
task_marked r s d e n m task looked says (network.absent none rests idle) memory goes marked = subst (λ (x : DiskState). ForTold x.told (IsInProgress SESSION)) (sym rests.disk) marked
task_marked r s d e n m task looked says (network.no_room rests heard) memory goes marked = absurd (memory heard)
