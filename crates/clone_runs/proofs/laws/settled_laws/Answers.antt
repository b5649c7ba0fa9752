use Rattle.clone_runs.proofs.EndLemmas.{ends, sent, taken, unserved}
use Rattle.clone_runs.proofs.laws.settled_laws.Goals as goal

pub returns-clause-sent : goal.returns-clause-sent
returns-clause-sent g c = sent

pub returns-clause-taken : goal.returns-clause-taken
returns-clause-taken g c = taken

pub returns-clause-ends : goal.returns-clause-ends
returns-clause-ends g c = ends

pub returns-clause-unserved : goal.returns-clause-unserved
returns-clause-unserved g c = unserved
