use Rattle.clone_contents.proofs.DropLemmas.{dropped_is}
use Rattle.clone_contents.proofs.laws.drop_law.Goals as goal

pub returns : goal.returns
returns c = λ lsn entry_number table image formed may. dropped_is image lsn entry_number table formed may
