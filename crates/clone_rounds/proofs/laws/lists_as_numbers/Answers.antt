use Rattle.clone_rounds.proofs.Sums.{number_less}
use Rattle.clone_rounds.proofs.laws.lists_as_numbers.Goals as goal

pub returns : goal.returns
returns c = number_less
