use Rattle.clone_contents.proofs.CommitLemmas.{commit_is}
use Rattle.clone_contents.proofs.laws.commit_law.Goals as goal

pub returns : goal.returns
returns c = λ lsn s position image slot formed small used fits. commit_is image lsn s position slot formed small used fits
