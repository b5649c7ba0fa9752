use Rattle.clone_taking.proofs.KeepingLemmas.{keeps}
use Rattle.clone_taking.proofs.laws.keeping_laws.Goals as goal

pub returns : goal.returns
returns g c = λ state. keeps state
