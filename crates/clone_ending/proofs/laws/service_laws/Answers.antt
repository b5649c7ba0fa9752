use Rattle.clone_network.specs.declared.donor_step.DonorStep.TheVariants.{Served}
use Rattle.clone_serve.specs.declared.turn.ServeAnswer.TheVariants.{Idle}
use Rattle.clone_ending.proofs.DonorLemmas.{donor_busy, donor_rests}
use Rattle.clone_ending.proofs.laws.service_laws.Goals as goal

pub returns-clause-donor : goal.returns-clause-donor
returns-clause-donor c d t n m number answer numbers = donor_busy d t n m number answer numbers

pub returns-clause-rests : goal.returns-clause-rests
returns-clause-rests c d t n m number numbers = donor_rests d t n m number (Served Idle) numbers
