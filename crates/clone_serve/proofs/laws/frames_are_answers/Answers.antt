use Rattle.clone_serve.proofs.ServedLemmas as served
use Rattle.clone_serve.proofs.laws.frames_are_answers.Goals as goal

pub returns : goal.returns
returns c = served.frames_are_answers
