use Rattle.clone_rounds.proofs.Stepping.{steps_there}
use Rattle.clone_rounds.proofs.laws.rules_step.Goals as goal

pub returns : goal.returns
returns c = steps_there
