use Rattle.std.proofs.Common.{◌∙◌, sym, ap}
use Rattle.std.specs.Option.{option_map}
use Rattle.clone_snapshot.specs.declared.files.FileChunk.{FileChunk}
use Rattle.clone_snapshot.proofs.SpanLemmas.{space_chunk_is, pages_at}
use Rattle.clone_snapshot.proofs.files.chunk_of_space.Goals as goal

pub returns-in_err-pages-clause-chunk : goal.returns-in_err-pages-clause-chunk
returns-in_err-pages-clause-chunk c =
    ap (option_map (λ (x : FileChunk). pages_at x.space x.pages)) c.from_residual.ensures ∙ sym (ap (option_map (pages_at c.args.space)) c.in_err-pages.was) ∙ space_chunk_is c.args.space c.args.pages c.args.chunk c.piece.result c.piece.ensures

pub returns-clause-chunk : goal.returns-clause-chunk
returns-clause-chunk c = sym (ap (option_map (pages_at c.args.space)) c.in_ok-pages.was) ∙ space_chunk_is c.args.space c.args.pages c.args.chunk c.piece.result c.piece.ensures
