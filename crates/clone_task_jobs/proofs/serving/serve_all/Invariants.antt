use Rattle.clone_task_jobs.specs.Serving.{AreTurns, BothWorked}
use Rattle.clone_task_jobs.proofs.serving.serve_all.Given as goal

-- so far the job went on
abbrev pub invariant-loop : goal.invariant-loop
invariant-loop g l =
    (goal.iterator-loop g).can_next l.iterator' × (goal.iterator-loop g).is_finite l.iterator'
    × BothWorked g.N.End.Link (AreTurns g.N.End.Link l.fn.task) l.fn.server.seat l.server.seat l.fn.desk l.desk
