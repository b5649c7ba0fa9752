use Rattle.std.proofs.Common.{◌-◌}
use Rattle.clone_run.proofs.running.+keep_up_from.Given as goal

abbrev pub decreases-keep_up_from : goal.decreases-keep_up_from
decreases-keep_up_from g l = 3 - l.number
