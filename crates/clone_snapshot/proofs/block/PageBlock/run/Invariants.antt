use Rattle.std.proofs.Common.{◌≡◌, take}
use Rattle.clone_snapshot.specs.StageLists.{run}
use Rattle.clone_snapshot.proofs.block.PageBlock.run.Given as goal

abbrev pub invariant-loop-index : goal.invariant-loop-index
invariant-loop-index l = take l.index l.page-items ≡ run l.space l.numbers.first l.index
