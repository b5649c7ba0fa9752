use Rattle.clone_follow.proofs.Decoding.{spells_back, only_spelling}
use Rattle.clone_follow.proofs.laws.spells_back.Goals as goal

pub returns-clause-read : goal.returns-clause-read
returns-clause-read c = spells_back

pub returns-clause-only : goal.returns-clause-only
returns-clause-only c = only_spelling
