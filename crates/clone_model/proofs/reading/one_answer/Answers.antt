use Rattle.clone_model.proofs.OneAnswer as lemmas
use Rattle.clone_model.proofs.reading.one_answer.Goals as goal

pub returns : goal.returns
returns c = lemmas.one_answer
