use Rattle.std.proofs.Common.{◌≡◌, ◌++◌, take}
use Rattle.clone_snapshot.specs.StageLists.{Files}
use Rattle.clone_marks.specs.Counts.{pairs_of, block_counts, unmarked}
use Rattle.clone_marks.proofs.making.push_spaces.Given as goal

abbrev pub invariant-loop-space : goal.invariant-loop-space
invariant-loop-space l = l.chunks.items ≡ l.initial.chunks.items ++ unmarked (block_counts (Files (pairs_of (take l.space-index l.spaces))))
