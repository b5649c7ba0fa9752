use Rattle.clone_chunk.proofs.Life as life
use Rattle.clone_chunk.proofs.laws.claimed_once.Goals as goal

pub returns : goal.returns
returns c = life.claimed_once
