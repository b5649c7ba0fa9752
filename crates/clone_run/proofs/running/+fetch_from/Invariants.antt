use Rattle.std.proofs.Common.{◌-◌}
use Rattle.clone_run.proofs.running.+fetch_from.Given as goal

abbrev pub decreases-fetch_from : goal.decreases-fetch_from
decreases-fetch_from g l = l.team.now.load.tasks - l.task
