use Rattle.std.proofs.Common.{◌∙◌, sym}
use Rattle.clone_snapshot.proofs.SpanLemmas.{page_blocks_counted}
use Rattle.clone_snapshot.proofs.pages.blocks_of_pages.Goals as goal

pub returns-in-Some : goal.returns-in-Some
returns-in-Some c = c.div_ceil.ensures ∙ page_blocks_counted c.args.pages.now c.args.chunk c.in-Some.chunk (sym c.in-Some.ensures.chunk) c.in-Some.ensures.range
