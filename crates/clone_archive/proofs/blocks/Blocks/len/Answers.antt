use Rattle.std.proofs.Common.{sym}
use Rattle.clone_archive.proofs.BlockListLemmas.{block_counts}
use Rattle.clone_archive.proofs.blocks.Blocks.len.Goals as goal

pub returns : goal.returns
returns c = sym (block_counts _ _ _ c.self.invariant c.self.view_is).0
