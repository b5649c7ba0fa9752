use Rattle.std.proofs.Common.{◌-◌}
use Rattle.clone_run.proofs.running.+write_from.Given as goal

abbrev pub decreases-write_from : goal.decreases-write_from
decreases-write_from g l = l.team.now.load.writers - l.number
