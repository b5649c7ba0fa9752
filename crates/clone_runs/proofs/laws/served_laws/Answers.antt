use Rattle.clone_runs.proofs.ClosedLemmas.{served}
use Rattle.clone_runs.proofs.laws.served_laws.Goals as goal

pub returns : goal.returns
returns g c = λ r tasks asides v t u ws last first state joins all more closed. served _ first state v t u ws last joins all more closed r tasks asides
