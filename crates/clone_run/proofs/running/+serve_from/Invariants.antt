use Rattle.std.proofs.Common.{◌-◌}
use Rattle.clone_run.proofs.running.+serve_from.Given as goal

abbrev pub decreases-serve_from : goal.decreases-serve_from
decreases-serve_from g l = l.team.now.load.tasks - l.task
