use Rattle.std.proofs.Common.{None, Some, subst}
use Rattle.clone_task_jobs.specs.Serving.{ServesOne}
use Rattle.clone_task_jobs.proofs.ServeLemmas.{turns_end, turns_none, turns_on}
use Rattle.clone_task_jobs.proofs.serving.serve_all.Goals as goal

pub loop-init : goal.loop-init
loop-init g c = (tt, tt, turns_none g.N.End.Link c.args.task c.args.server.now.seat c.args.desk.now)

pub returns-in-Some-serve_next : goal.returns-in-Some-serve_next
returns-in-Some-serve_next g c =
    turns_end g.N.End.Link c.args.task c.in-Some-serve_next.ending c.args.server.now.seat c.loop.server.seat c.serve_next.new.server.seat c.args.desk.now c.loop.desk c.serve_next.new.desk c.loop.invariant.2 c.in-Some-serve_next.ensures

pub loop-preserved : goal.loop-preserved
loop-preserved g c = (
  tt,
  tt,
  turns_on g.N.End.Link c.args.task c.args.server.now.seat c.loop.server.seat c.serve_next.new.server.seat c.args.desk.now c.loop.desk c.serve_next.new.desk c.loop.invariant.2 c.in_default.ensures,
)
