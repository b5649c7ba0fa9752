use Rattle.clone_model.proofs.history.drop_laws.Goals as goal
use Rattle.clone_model.proofs.DropLemmas.{dropped_own, dropped_other}

pub returns-clause-gone : goal.returns-clause-gone
returns-clause-gone c = dropped_own

pub returns-clause-others : goal.returns-clause-others
returns-clause-others c = dropped_other
