use Rattle.std.proofs.Common.{take}
use Rattle.std.specs.List.{AllByRecursion}
use Rattle.clone_follow.specs.Binlog.{IsShort}
use Rattle.clone_tests_follow.proofs.follower.are_short.Given as goal

abbrev pub invariant-loop-commit : goal.invariant-loop-commit
invariant-loop-commit l = AllByRecursion IsShort (take l.commit-index l.commits)
