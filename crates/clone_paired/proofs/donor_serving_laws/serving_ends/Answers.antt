use Rattle.clone_paired.proofs.DonorServesAll.{donor_serves}
use Rattle.clone_paired.proofs.donor_serving_laws.serving_ends.Goals as goal

pub returns : goal.returns
returns c = donor_serves
