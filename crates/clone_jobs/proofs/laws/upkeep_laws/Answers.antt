use Rattle.clone_jobs.proofs.PartLemmas.{upkeep_aside}
use Rattle.clone_jobs.proofs.laws.upkeep_laws.Goals as goal

pub returns : goal.returns
returns c = upkeep_aside
