use Rattle.clone_tasks.proofs.SendLemmas.{commands}
use Rattle.clone_tasks.proofs.laws.sending_laws.Goals as goal

pub returns : goal.returns
returns c = commands
