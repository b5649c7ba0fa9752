use Rattle.clone_staged.proofs.HeldCopies.{staged_holds, holds_again, lists_copy}
use Rattle.clone_staged.proofs.laws.holds_laws.Goals as goal

pub returns-clause-staged : goal.returns-clause-staged
returns-clause-staged c = staged_holds

pub returns-clause-again : goal.returns-clause-again
returns-clause-again c = holds_again

pub returns-clause-listed : goal.returns-clause-listed
returns-clause-listed c = lists_copy
