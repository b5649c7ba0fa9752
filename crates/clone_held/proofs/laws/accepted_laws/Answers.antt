use Rattle.clone_held.proofs.RunLemmas.{known_begun, known_run}
use Rattle.clone_held.proofs.laws.accepted_laws.Goals as goal

pub returns : goal.returns
returns g c = λ state number trace first run begun legal heard stands goes. (known_run state number trace first run (known_begun state number trace first begun) legal heard).accepted stands goes
