use Rattle.clone_runs.proofs.KeepingLemmas.{kept_run}
use Rattle.clone_runs.proofs.laws.last_laws.Goals as goal

pub returns : goal.returns
returns g c = λ puts opens leaves has_left first run keeps. kept_run _ puts opens leaves has_left keeps first run
