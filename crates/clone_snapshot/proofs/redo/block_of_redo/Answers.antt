use Rattle.std.proofs.Common.{◌∙◌, sym, ap}
use Rattle.std.specs.Option.{option_map}
use Rattle.clone_snapshot.specs.StageLists.{RedoPart}
use Rattle.clone_snapshot.specs.declared.block.RedoBlock.{RedoBlock}
use Rattle.clone_snapshot.proofs.SpanLemmas.{redo_block_is, bytes_at}
use Rattle.clone_snapshot.proofs.redo.block_of_redo.Goals as goal

pub returns-in_err-bytes : goal.returns-in_err-bytes
returns-in_err-bytes c = ap (option_map (λ (b : RedoBlock). RedoPart b.from b.length)) c.from_residual-in_err-bytes.ensures ∙ sym (ap (option_map bytes_at) c.in_err-bytes.was) ∙ redo_block_is c.args.start c.args.end c.args.chunk c.args.block c.in_ok-chunk.chunk c.piece.result (sym c.in_ok-chunk.ensures.chunk) c.piece.ensures

pub returns : goal.returns
returns c = sym (ap (option_map bytes_at) c.in_ok-bytes.was) ∙ redo_block_is c.args.start c.args.end c.args.chunk c.args.block c.in_ok-chunk.chunk c.piece.result (sym c.in_ok-chunk.ensures.chunk) c.piece.ensures
