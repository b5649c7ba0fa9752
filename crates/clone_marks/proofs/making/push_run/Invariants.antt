use Rattle.std.proofs.Common.{◌≡◌, ◌++◌}
use Rattle.clone_marks.proofs.RunLemmas.{run_front}
use Rattle.clone_marks.proofs.making.push_run.Given as goal

abbrev pub invariant-loop-index : goal.invariant-loop-index
invariant-loop-index l = l.chunks.items ≡ l.initial.chunks.items ++ run_front l.units l.chunk l.block l.index
