use Rattle.clone_paired.proofs.Begins.{begins_paired}
use Rattle.clone_paired.proofs.Cuts.{cut_paired}
use Rattle.clone_paired.proofs.TaskLoses.{task_paired}
use Rattle.clone_paired.proofs.laws.paired_laws.Goals as goal

pub returns-clause-begins : goal.returns-clause-begins
returns-clause-begins c = begins_paired

pub returns-clause-cuts : goal.returns-clause-cuts
returns-clause-cuts c = cut_paired

pub returns-clause-task : goal.returns-clause-task
returns-clause-task c = task_paired
