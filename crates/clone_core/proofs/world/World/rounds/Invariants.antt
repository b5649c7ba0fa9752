use Rattle.clone_core.specs.Left.{tasks_left}
use Rattle.clone_core.proofs.RoundLemmas.{Rounds}
use Rattle.clone_core.proofs.world.World.rounds.Given as goal

abbrev pub invariant-loop-alloc : goal.invariant-loop-alloc
invariant-loop-alloc g l = Rounds l.fn.self l.self

abbrev pub decreases-loop-alloc : goal.decreases-loop-alloc
decreases-loop-alloc g l = tasks_left l.self
