use Rattle.clone_core.proofs.RoundLemmas.{DonorDone, numbers_left}
use Rattle.clone_core.proofs.world.World.round_of_donor.Given as goal

abbrev pub invariant-loop-next : goal.invariant-loop-next
invariant-loop-next g l = DonorDone l.fn.self l.next l.has_moved l.self

abbrev pub decreases-loop-next : goal.decreases-loop-next
decreases-loop-next g l = numbers_left l.next
