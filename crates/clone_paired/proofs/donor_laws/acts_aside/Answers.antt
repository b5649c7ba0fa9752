use Rattle.clone_paired.proofs.DonorOthers.{act_own, acts_pair}
use Rattle.clone_paired.proofs.donor_laws.acts_aside.Goals as goal

pub returns-clause-leaves : goal.returns-clause-leaves
returns-clause-leaves c = act_own

pub returns-clause-pairs : goal.returns-clause-pairs
returns-clause-pairs c = acts_pair
