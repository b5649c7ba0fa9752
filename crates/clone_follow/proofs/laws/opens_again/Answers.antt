use Rattle.clone_follow.proofs.RowLists as lists
use Rattle.clone_follow.proofs.laws.opens_again.Goals as goal

pub returns : goal.returns
returns c = lists.opens_again
