use Rattle.std.proofs.Common.{◌∙◌, sym}
use Rattle.clone_snapshot.proofs.SpanLemmas.{redo_blocks_counted}
use Rattle.clone_snapshot.proofs.redo.blocks_of_redo.Goals as goal

pub returns-in-Some : goal.returns-in-Some
returns-in-Some c = c.div_ceil.ensures ∙ redo_blocks_counted c.args.start c.args.end c.args.chunk c.in-Some.chunk (sym c.in-Some.ensures.chunk)
