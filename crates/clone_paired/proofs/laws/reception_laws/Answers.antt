use Rattle.clone_paired.proofs.ReceptionKept.{reception_begins, reception_kept}
use Rattle.clone_paired.proofs.laws.reception_laws.Goals as goal

pub returns-clause-begins : goal.returns-clause-begins
returns-clause-begins c = reception_begins

pub returns-clause-task : goal.returns-clause-task
returns-clause-task c = reception_kept
