use Rattle.clone_view.proofs.ViewSteps.{found_loss}
use Rattle.clone_view.proofs.laws.task_loses.Goals as goal

pub returns : goal.returns
returns c = found_loss
