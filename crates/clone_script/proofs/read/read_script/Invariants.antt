use Rattle.std.proofs.Common.{length}
use Rattle.clone_script.proofs.ReadLines.{HasRead}
use Rattle.clone_script.proofs.read.read_script.Given as goal

abbrev pub invariant-loop-rest : goal.invariant-loop-rest
invariant-loop-rest l = HasRead l.bytes l.draft l.number l.rest

abbrev pub decreases-loop-rest : goal.decreases-loop-rest
decreases-loop-rest l = length l.rest
