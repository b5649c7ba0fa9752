use Rattle.clone_hub.proofs.ShuffleLemmas.{made_of}
use Rattle.clone_hub.proofs.laws.made_laws.Goals as goal

pub returns : goal.returns
returns g c = λ parts run shuffled. made_of parts run shuffled
