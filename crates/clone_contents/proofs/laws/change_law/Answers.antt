use Rattle.clone_contents.proofs.ChangeLemmas.{change_is}
use Rattle.clone_contents.proofs.laws.change_law.Goals as goal

pub returns : goal.returns
returns c = λ lsn s image slot e value formed may. change_is image lsn s slot e value formed may
