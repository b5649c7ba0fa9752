use Rattle.clone_core.proofs.WaitingLemmas.{waiting}
use Rattle.clone_core.proofs.CleanLemmas.{Cleaning, frames_of}
use Rattle.clone_core.proofs.world.World.clean.Given as goal

abbrev pub invariant-loop-space : goal.invariant-loop-space
invariant-loop-space g l = Cleaning l.fn.self l.landed l.self

abbrev pub decreases-loop-space : goal.decreases-loop-space
decreases-loop-space g l = waiting (frames_of l.self)
