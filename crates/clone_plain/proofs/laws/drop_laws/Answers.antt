use Rattle.clone_plain.proofs.DropLemmas.{dropped_value, dropped_again, dropped_value_other, dropped_locked}
use Rattle.clone_plain.proofs.laws.drop_laws.Goals as goal

pub returns-clause-gone : goal.returns-clause-gone
returns-clause-gone c = dropped_value

pub returns-clause-again : goal.returns-clause-again
returns-clause-again c = dropped_again

pub returns-clause-others : goal.returns-clause-others
returns-clause-others c = dropped_value_other

pub returns-clause-locked : goal.returns-clause-locked
returns-clause-locked c = dropped_locked
