use Rattle.clone_contents.proofs.RecoveryLemmas.{undone_is}
use Rattle.clone_contents.proofs.laws.undoing_law.Goals as goal

pub returns : goal.returns
returns c = λ image e formed may. undone_is image e formed may
