use Rattle.clone_rounds.proofs.Ending.{goes_on, clone_ends}
use Rattle.clone_rounds.proofs.laws.clone_ends.Goals as goal

pub returns : goal.returns
returns c = record { goes_on = goes_on; ends = clone_ends }
