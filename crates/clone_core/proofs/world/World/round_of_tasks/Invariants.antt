use Rattle.clone_core.proofs.RoundLemmas.{TasksDone}
use Rattle.clone_core.proofs.world.World.round_of_tasks.Given as goal

abbrev pub invariant-loop-task : goal.invariant-loop-task
invariant-loop-task g l = TasksDone l.fn.self l.task l.has_moved l.self
