use Rattle.clone_law.proofs.AnswerLemmas.{calm_keeps, session_keeps}
use Rattle.clone_law.proofs.laws.answer_laws.Goals as goal

pub returns : goal.returns
returns c = record { files = calm_keeps; pages = session_keeps }
