use Rattle.clone_paired.proofs.DonorPremisesKept.{act_ordered, none_ordered}
use Rattle.clone_paired.proofs.donor_premises_laws.order_stays.Goals as goal

pub returns-clause-begins : goal.returns-clause-begins
returns-clause-begins c = none_ordered

pub returns-clause-stays : goal.returns-clause-stays
returns-clause-stays c d t act is told order acts = act_ordered d t is told order act acts
