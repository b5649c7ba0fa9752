use Rattle.clone_fetch.proofs.FetchedLemmas as fetched
use Rattle.clone_fetch.proofs.laws.fetched_laws.Goals as goal

pub returns-clause-new : goal.returns-clause-new
returns-clause-new c = fetched.begins

pub returns-clause-comes : goal.returns-clause-comes
returns-clause-comes c = fetched.comes

pub returns-clause-steps : goal.returns-clause-steps
returns-clause-steps c = fetched.steps
