use Rattle.clone_contents.proofs.GrowthLemmas.{grown_is}
use Rattle.clone_contents.proofs.laws.growth_law.Goals as goal

pub returns : goal.returns
returns c = λ lsn entry_number table pages last image formed may used. grown_is image lsn entry_number table pages last formed may used
