use Rattle.clone_talk.proofs.DonorTalks.{goes_on}
use Rattle.clone_talk.proofs.donor_laws.donor_goes_on.Goals as goal

pub returns : goal.returns
returns c alone d t r n m number answer is is_then talks step memory = goes_on alone d t r n m number answer talks step is is_then memory
