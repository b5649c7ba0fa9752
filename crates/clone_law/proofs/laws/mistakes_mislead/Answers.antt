use Rattle.clone_law.proofs.MistakeLemmas.{misled_by}
use Rattle.clone_law.proofs.laws.mistakes_mislead.Goals as goal

pub returns : goal.returns
returns c = λ mistake. misled_by mistake
