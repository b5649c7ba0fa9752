use Rattle.clone_contents.proofs.UndoSlotLemmas.{begin_is}
use Rattle.clone_contents.proofs.laws.begin_law.Goals as goal

pub returns : goal.returns
returns c = λ lsn s writer index image formed may. begin_is image lsn s writer index formed may.small may.writer_fits may.index_fits
