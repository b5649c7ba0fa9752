use Rattle.clone_snapshot.proofs.LastLemmas as last
use Rattle.clone_snapshot.proofs.laws.last_of_all.Goals as goal

pub returns : goal.returns
returns c = last.last_of_all
