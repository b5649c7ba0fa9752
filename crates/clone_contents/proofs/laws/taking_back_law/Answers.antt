use Rattle.clone_contents.proofs.TakingBackLemmas.{taking_back_is}
use Rattle.clone_contents.proofs.laws.taking_back_law.Goals as goal

pub returns : goal.returns
returns c = λ lsn s image slot front e formed may. taking_back_is image lsn s slot front e formed may
