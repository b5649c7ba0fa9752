use Rattle.clone_law.proofs.AlikeLemmas.{copy_recovers}
use Rattle.clone_law.proofs.laws.recovery_laws.Goals as goal

pub returns : goal.returns
returns c = copy_recovers
