use Rattle.std.proofs.Common.{◌∙◌, ap}
use Rattle.clone_snapshot.specs.StageLists.{block_of}
use Rattle.clone_snapshot.proofs.EachBlock.{no_redo}
use Rattle.clone_snapshot.proofs.snapshot.Snapshot.redo_block.Goals as goal

pub returns-in_default : goal.returns-in_default
returns-in_default c redo =
    let shown = ap (λ s. block_of s.list c.args.chunk c.args.block) c.self.view_is in
    ((λ e. cc), λ e. absurd (no_redo c.self.inside.list c.args.chunk c.args.block redo.from redo.length c.in_default.not-Redo (shown ∙ e)))
