use Rattle.clone_rounds.proofs.Lessening.{task_lessens, donor_lessens, donor_keeps, each_lessens, no_endless}
use Rattle.clone_rounds.proofs.laws.steps_left.Goals as goal

pub returns : goal.returns
returns c = record { task = task_lessens; donor = donor_lessens; same = donor_keeps; each = each_lessens; ends = no_endless }
