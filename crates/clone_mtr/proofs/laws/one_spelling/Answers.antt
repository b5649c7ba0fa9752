use Rattle.clone_mtr.proofs.Spellings as spellings
use Rattle.clone_mtr.proofs.laws.one_spelling.Goals as goal

pub returns : goal.returns
returns c = spellings.one_spelling
