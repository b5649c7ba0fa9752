use Rattle.std.proofs.Common.{refl}
use Rattle.clone_tasks.specs.Rules.{sending_rule}
use Rattle.clone_view.proofs.ViewSteps.{sent}
use Rattle.clone_view.proofs.laws.task_sends.Goals as goal

pub returns : goal.returns
returns c = λ counts t session lines w k floor frame v running within is command. sent counts t session lines w v running k within (sending_rule t k) refl floor frame is command
