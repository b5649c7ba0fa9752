use Rattle.clone_paired.proofs.DonorMovesTask.{donor_tasks}
use Rattle.clone_paired.proofs.donor_stages_laws.task_ends.Goals as goal

pub returns : goal.returns
returns c = donor_tasks
