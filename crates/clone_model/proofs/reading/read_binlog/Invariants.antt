use Rattle.std.proofs.Common.{length}
use Rattle.clone_model.proofs.BinlogLines.{HasCommits}
use Rattle.clone_model.proofs.reading.read_binlog.Given as goal

abbrev pub invariant-loop-rest : goal.invariant-loop-rest
invariant-loop-rest l = HasCommits l.text l.binlog.commits l.number l.rest

abbrev pub decreases-loop-rest : goal.decreases-loop-rest
decreases-loop-rest l = length l.rest
