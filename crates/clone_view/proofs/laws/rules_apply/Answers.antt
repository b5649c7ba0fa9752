use Rattle.clone_view.proofs.Applying.{applies}
use Rattle.clone_view.proofs.laws.rules_apply.Goals as goal

pub returns : goal.returns
returns c = applies
