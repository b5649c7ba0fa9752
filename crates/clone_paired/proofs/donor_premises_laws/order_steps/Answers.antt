use Rattle.clone_paired.proofs.DonorPremisesSteps.{step_ordered}
use Rattle.clone_paired.proofs.donor_premises_laws.order_steps.Goals as goal

pub returns : goal.returns
returns c d t n m number answer is told order = step_ordered d t is told order n m number answer
