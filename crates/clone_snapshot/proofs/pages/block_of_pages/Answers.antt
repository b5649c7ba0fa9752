use Rattle.std.proofs.Common.{◌≡◌, ◌+◌, ◌-◌, ◌∙◌, List, ℕ, Some, sym, ap, arith}
use Rattle.std.specs.Option.{option_map}
use Rattle.clone_snapshot.specs.StageLists.{PagePart}
use Rattle.clone_snapshot.proofs.SpanLemmas.{page_block_is, entries}
use Rattle.clone_snapshot.proofs.pages.block_of_pages.Goals as goal

pub returns-in_err-indexes : goal.returns-in_err-indexes
returns-in_err-indexes c =
    ap (option_map (λ (pages : List (ℕ × ℕ)). PagePart pages)) c.from_residual-in_err-indexes.ensures ∙ sym (ap (option_map (entries c.args.pages.now)) c.in_err-indexes.was) ∙ page_block_is c.args.pages.now c.args.chunk c.args.block c.in_ok-chunk.chunk c.piece.result (sym c.in_ok-chunk.ensures.chunk) c.in_ok-chunk.ensures.range c.piece.ensures

pub returns : goal.returns
returns c =
    let count : c.in_ok-indexes.indexes.first + c.in_ok-indexes.indexes.count - c.in_ok-indexes.indexes.first ≡ c.in_ok-indexes.indexes.count = omega arith in
    ap (λ pages. Some (PagePart pages)) (rw count at c.of.ensures) ∙ sym (ap (option_map (entries c.args.pages.now)) c.in_ok-indexes.was) ∙ page_block_is c.args.pages.now c.args.chunk c.args.block c.in_ok-chunk.chunk c.piece.result (sym c.in_ok-chunk.ensures.chunk) c.in_ok-chunk.ensures.range c.piece.ensures
