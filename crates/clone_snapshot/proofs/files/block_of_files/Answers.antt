use Rattle.std.proofs.Common.{◌∙◌, List, ℕ, Some, sym, ap}
use Rattle.std.specs.Option.{option_map}
use Rattle.clone_snapshot.specs.StageLists.{PagePart}
use Rattle.clone_snapshot.proofs.SpanLemmas.{file_block_is, pages_at}
use Rattle.clone_snapshot.proofs.files.block_of_files.Goals as goal

pub returns-in_err-numbers : goal.returns-in_err-numbers
returns-in_err-numbers c =
    ap (option_map (λ (pages : List (ℕ × ℕ)). PagePart pages)) c.from_residual-in_err-numbers.ensures ∙ sym (ap (option_map (pages_at c.in_ok-chunk.chunk.space)) c.in_err-numbers.was) ∙ file_block_is c.args.spaces.now c.args.chunk c.args.block c.in_ok-chunk.chunk.space c.in_ok-chunk.chunk.pages c.piece.result (sym c.in_ok-chunk.ensures.chunk) c.piece.ensures

pub returns : goal.returns
returns c =
    ap (λ pages. Some (PagePart pages)) c.run.ensures ∙ sym (ap (option_map (pages_at c.in_ok-chunk.chunk.space)) c.in_ok-numbers.was) ∙ file_block_is c.args.spaces.now c.args.chunk c.args.block c.in_ok-chunk.chunk.space c.in_ok-chunk.chunk.pages c.piece.result (sym c.in_ok-chunk.ensures.chunk) c.piece.ensures
