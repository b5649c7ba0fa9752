use Rattle.clone_core.specs.Left.{donor_left}
use Rattle.clone_core.proofs.RoundLemmas.{DonorRounds}
use Rattle.clone_core.proofs.world.World.rounds_of_donor.Given as goal

abbrev pub invariant-loop-round : goal.invariant-loop-round
invariant-loop-round g l = DonorRounds l.fn.self l.self

abbrev pub decreases-loop-round : goal.decreases-loop-round
decreases-loop-round g l = donor_left l.self
