-- A step by a rule is one by the same rule, however that is named.
use Rattle.std.proofs.Common.{ℕ, Option, ◌≡◌, ◌∙◌, ap, subst, sym, true}
use Rattle.clone_tasks.specs.declared.end.CloneEnd.{CloneEnd}
use Rattle.clone_tasks.specs.declared.rule.Link.{Link}
use Rattle.clone_tasks.specs.declared.rule.Rule.{Rule}
use Rattle.clone_tasks.specs.Rules.{rule_at, sending_rule}
use Rattle.clone_tasks.specs.Sending.{sends}
use Rattle.clone_tasks.proofs.RuleLemmas.{agrees}
use Rattle.clone_recipient.specs.Receptions.{Reception}
use Rattle.clone_fetch.specs.declared.answer.TaskAnswer.{TaskAnswer}
use Rattle.clone_fetch.specs.Fetching.{PutsOut, Requester, Sends, StepsBy, ended_as}

pub by_rule : (a b : Rule) (at : Link) (task floor : ℕ) (old new : Requester) (answer : TaskAnswer) → a ≡ b → StepsBy a at task floor old new answer → StepsBy b at task floor old new answer
by_rule a b at task floor old new answer same steps = subst (λ (which : Rule). StepsBy which at task floor old new answer) same steps

-- where the rule sends, the table sends by the same
pub sends_by : (made : Option ℕ) (which : Rule) (at : Link) (task floor : ℕ) (old new : Requester) (answer : TaskAnswer) → which ≡ rule_at made old.reception.table task at → sends which ≡ true
    → PutsOut (sending_rule old.reception.table task) task floor old.reception new.reception old.sent new.sent answer → new.disk ≡ old.disk → new.received ≡ old.received → Sends which task floor old new answer
sends_by made which at task floor old new answer is sending put disk received =
    let same : sending_rule old.reception.table task ≡ which = agrees made old.reception.table task at (ap sends (sym is) ∙ sending) ∙ sym is in
    (subst (λ (by : Rule). PutsOut by task floor old.reception new.reception old.sent new.sent answer) same put, disk, received)

-- the clone ends as it ended
pub ended_so : (how other : CloneEnd) (old mid after : Reception) → how ≡ other → mid ≡ old → after ≡ ended_as how mid → after ≡ ended_as other old
ended_so how other old mid after same kept ended = ended ∙ ap (ended_as how) kept ∙ ap (λ (end : CloneEnd). ended_as end old) same
