use Rattle.clone_contents.proofs.OpeningLemmas.{opening_is}
use Rattle.clone_contents.proofs.laws.opening_law.Goals as goal

pub returns : goal.returns
returns c = λ lsn. opening_is lsn
