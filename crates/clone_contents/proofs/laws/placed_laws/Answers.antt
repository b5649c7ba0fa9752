use Rattle.clone_contents.proofs.PlacedLemmas.{placed_first, placed_longer}
use Rattle.clone_contents.proofs.laws.placed_laws.Goals as goal

pub returns-clause-begins : goal.returns-clause-begins
returns-clause-begins c = placed_first

pub returns-clause-grows : goal.returns-clause-grows
returns-clause-grows c = placed_longer
