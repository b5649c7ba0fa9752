use Rattle.clone_ending.proofs.EndLemmas.{end_step}
use Rattle.clone_ending.proofs.laws.lone_end_laws.Goals as goal

pub returns : goal.returns
returns c = record { end = end_step }
