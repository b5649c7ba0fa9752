use Rattle.clone_paired.proofs.DonorPremisesFits.{blocks_in_order, told_fits}
use Rattle.clone_paired.proofs.donor_premises_laws.order_serves.Goals as goal

pub returns-clause-fits : goal.returns-clause-fits
returns-clause-fits c = told_fits

pub returns-clause-ascends : goal.returns-clause-ascends
returns-clause-ascends c = blocks_in_order
