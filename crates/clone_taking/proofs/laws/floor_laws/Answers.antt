use Rattle.clone_taking.proofs.FloorLemmas.{floor_kept}
use Rattle.clone_taking.proofs.laws.floor_laws.Goals as goal

pub returns : goal.returns
returns g c = λ state first run floor low. floor_kept state floor low first run
