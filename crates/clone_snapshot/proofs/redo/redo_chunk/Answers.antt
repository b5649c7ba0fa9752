use Rattle.clone_snapshot.proofs.SpanLemmas.{redo_chunk_is}
use Rattle.clone_snapshot.proofs.redo.redo_chunk.Goals as goal

pub returns-clause-chunk : goal.returns-clause-chunk
returns-clause-chunk c = redo_chunk_is c.args.start c.args.end c.args.chunk c.piece.result c.piece.ensures
