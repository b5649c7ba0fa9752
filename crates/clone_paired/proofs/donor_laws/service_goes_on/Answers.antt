use Rattle.clone_paired.proofs.DonorService.{service_goes_on}
use Rattle.clone_paired.proofs.donor_laws.service_goes_on.Goals as goal

pub returns : goal.returns
returns c = service_goes_on
