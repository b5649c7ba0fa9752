use Rattle.clone_answering.proofs.TaskLemmas.{serving}
use Rattle.clone_answering.proofs.laws.serving_laws.Goals as goal

pub returns : goal.returns
returns g c = λ number task. serving g.N.End.Link number task
