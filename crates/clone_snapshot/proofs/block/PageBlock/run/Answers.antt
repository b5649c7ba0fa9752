use Rattle.std.proofs.Common.{ℕ, ◌+◌, [], ◌∷◌, ◌++◌, replicate, refl, sym, ap, ◌∙◌, arith}
use Rattle.std.proofs.lemmas.List.{take_more_set, length-take-le}
use Rattle.std.proofs.lemmas.List.FromFn.{map-range_with_len_more}
use Rattle.clone_snapshot.proofs.BlockLemmas.{filled_front}
use Rattle.clone_snapshot.proofs.block.PageBlock.run.Goals as goal

pub loop-index-preserved : goal.loop-index-preserved
loop-index-preserved c =
    let page : ℕ → ℕ × ℕ = λ number. (c.args.space, number) in
    let first = c.args.numbers.first in
    let index = c.loop-index.index in
    take_more_set c.loop-index.page-items index (page (first + index)) (omega (arith, c.loop-index.auto.page-items, c.loop-index-test.true)) ∙ ap (λ front. front ++ page (first + index) ∷ []) c.loop-index.invariant ∙ sym (map-range_with_len_more page first index (first + index) refl)

pub invariant_of-result : goal.invariant_of-result
invariant_of-result c =
    filled_front c.loop-index.page-items c.args.numbers.count (c.loop-index.auto.page-items ∙ length-take-le c.args.numbers.count (replicate 8 (0, 0)) c.requires.few) c.requires.few
