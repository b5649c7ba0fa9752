use Rattle.clone_runs.proofs.ClosedLemmas.{fetched}
use Rattle.clone_runs.proofs.laws.fetched_laws.Goals as goal

pub returns : goal.returns
returns g c = λ r tasks has_left v t u ws last first state joins all more closed. fetched _ first state v t u ws last joins all more closed r tasks has_left
