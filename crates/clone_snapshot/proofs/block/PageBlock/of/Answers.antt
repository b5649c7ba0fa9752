use Rattle.std.proofs.Common.{ap, length}
use Rattle.clone_snapshot.proofs.BlockLemmas.{filled_front}
use Rattle.clone_snapshot.proofs.block.PageBlock.of.Goals as goal

pub invariant_of-result : goal.invariant_of-result
invariant_of-result c = filled_front c.copy_from_slice.new.self _ (ap length c.copy_from_slice.ensures.after) c.requires
