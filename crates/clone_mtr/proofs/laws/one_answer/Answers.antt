use Rattle.clone_mtr.proofs.Unique as unique
use Rattle.clone_mtr.proofs.laws.one_answer.Goals as goal

pub returns : goal.returns
returns c = unique.one_answer
