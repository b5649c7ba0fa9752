use Rattle.clone_contents.proofs.CreateLemmas.{create_is}
use Rattle.clone_contents.proofs.laws.create_law.Goals as goal

pub returns : goal.returns
returns c = λ lsn entry_number table buckets image formed may. create_is image lsn entry_number table buckets formed may
