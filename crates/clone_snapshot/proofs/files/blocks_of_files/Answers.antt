use Rattle.std.proofs.Common.{◌∙◌, sym}
use Rattle.clone_snapshot.proofs.SpanLemmas.{file_blocks_counted}
use Rattle.clone_snapshot.proofs.files.blocks_of_files.Goals as goal

pub returns-in-Some : goal.returns-in-Some
returns-in-Some c = c.div_ceil.ensures ∙ file_blocks_counted c.args.spaces.now c.args.chunk c.in-Some.chunk.space c.in-Some.chunk.pages (sym c.in-Some.ensures.chunk)
