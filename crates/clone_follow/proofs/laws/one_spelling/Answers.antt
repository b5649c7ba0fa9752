use Rattle.clone_follow.proofs.Unique as unique
use Rattle.clone_follow.proofs.laws.one_spelling.Goals as goal

pub returns : goal.returns
returns c = unique.one_spelling
