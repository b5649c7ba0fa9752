use Rattle.clone_paired.proofs.DonorMemoryEnds.{donor_closes}
use Rattle.clone_paired.proofs.donor_late_laws.closing_ends.Goals as goal

pub returns : goal.returns
returns c = donor_closes
