use Rattle.std.proofs.Common.{◌≡◌, take}
use Rattle.clone_chunk.specs.declared.partials.TheConstants.{MOST_PARTIAL}
use Rattle.clone_marks.specs.Blocks.{partials_of}
use Rattle.clone_marks.proofs.reporting.first_partials.Given as goal

abbrev pub invariant-loop-number : goal.invariant-loop-number
invariant-loop-number l = l.partials ≡ take MOST_PARTIAL (partials_of (take l.number l.chunks))
