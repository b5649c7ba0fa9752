use Rattle.clone_machine.proofs.RunLemmas.{asked_at, stands, run_is}
use Rattle.clone_machine.proofs.laws.run_laws.Goals as goal

pub returns-clause-runs : goal.returns-clause-runs
returns-clause-runs c = λ first run legal. (run_is first run legal).0

pub returns-clause-reaches : goal.returns-clause-reaches
returns-clause-reaches c = λ first run legal. (run_is first run legal).1

pub returns-clause-asks : goal.returns-clause-asks
returns-clause-asks c = asked_at

pub returns-clause-has : goal.returns-clause-has
returns-clause-has c = stands
