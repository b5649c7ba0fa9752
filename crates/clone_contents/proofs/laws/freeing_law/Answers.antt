use Rattle.clone_contents.proofs.RecoveryLemmas.{freed_is}
use Rattle.clone_contents.proofs.laws.freeing_law.Goals as goal

pub returns : goal.returns
returns c = λ image s slot formed small used. freed_is image s slot formed small used
