use Rattle.clone_increment.proofs.IncrementLemmas.{merged_same}
use Rattle.clone_increment.proofs.laws.merge_laws.Goals as goal

pub returns : goal.returns
returns c = merged_same
