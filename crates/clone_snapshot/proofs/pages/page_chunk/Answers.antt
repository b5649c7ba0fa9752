use Rattle.clone_snapshot.proofs.SpanLemmas.{page_chunk_is}
use Rattle.clone_snapshot.proofs.pages.page_chunk.Goals as goal

pub returns-clause-chunk : goal.returns-clause-chunk
returns-clause-chunk c = page_chunk_is c.args.pages.now c.args.chunk c.piece.result c.piece.ensures
