use Rattle.clone_runs.proofs.ShuffleLemmas.{joins_shuffled}
use Rattle.clone_runs.proofs.laws.shuffled_laws.Goals as goal

pub returns : goal.returns
returns g c = λ v t ws. joins_shuffled v ws t
