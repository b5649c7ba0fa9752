use Rattle.clone_contents.proofs.UndoSlotLemmas.{end_is}
use Rattle.clone_contents.proofs.laws.end_law.Goals as goal

pub returns : goal.returns
returns c = λ lsn s image slot formed small used. end_is image lsn s slot formed small used
