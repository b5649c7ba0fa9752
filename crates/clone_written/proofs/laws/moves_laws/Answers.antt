use Rattle.clone_written.proofs.MoveLemmas.{donor_after, moves}
use Rattle.clone_written.proofs.laws.moves_laws.Goals as goal

pub returns-clause-moves : goal.returns-clause-moves
returns-clause-moves c = moves

pub returns-clause-donor : goal.returns-clause-donor
returns-clause-donor c = donor_after
