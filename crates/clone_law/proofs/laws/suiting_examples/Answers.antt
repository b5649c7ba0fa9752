use Rattle.clone_law.proofs.ExampleLemmas.{opening_suits, overflow_suits}
use Rattle.clone_law.proofs.laws.suiting_examples.Goals as goal

pub returns : goal.returns
returns c = record { opening = opening_suits; overflow = overflow_suits }
