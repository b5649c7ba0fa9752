use Rattle.std.proofs.Common.{◌∙◌, ap}
use Rattle.clone_snapshot.specs.StageLists.{block_of}
use Rattle.clone_snapshot.proofs.EachBlock.{no_pages}
use Rattle.clone_snapshot.proofs.snapshot.Snapshot.page_block.Goals as goal

pub returns-in_default : goal.returns-in_default
returns-in_default c pages =
    let shown = ap (λ s. block_of s.list c.args.chunk c.args.block) c.self.view_is in
    ((λ e. cc), λ e. absurd (no_pages c.self.inside.list c.args.chunk c.args.block pages c.in_default.not-Files c.in_default.not-Pages (shown ∙ e)))
