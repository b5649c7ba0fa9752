use Rattle.std.proofs.Common.{◌≡◌, ◌+◌, ◌-◌, ◌%◌, ◌++◌, ◌∙◌, ap, arith, take, drop}
use Rattle.clone_archive.specs.BlockList.{BlockBytes}
use Rattle.clone_base.specs.declared.limits.TheConstants.{BLOCK_BYTES}
use Rattle.clone_archive.proofs.BlockListLemmas.{block_counts, read_in_block}
use Rattle.clone_archive.proofs.blocks.Blocks.read_piece.Goals as goal

pub returns-clause-filled : goal.returns-clause-filled
returns-clause-filled c =
    let counts = block_counts _ _ _ c.self.invariant c.self.view_is in
    let at = c.args.from % BLOCK_BYTES in
    let count = c.min-count.result in
    let len = c.self.inside.len in
    let read = read_in_block c.self.inside.blocks.items len c.args.from count c.index-block.result.now c.self.invariant (omega (arith, counts.0)) (omega arith) (omega arith) in
    let width : at + count - at ≡ count = omega arith in
    let block = c.deref.ensures.value ∙ ap (λ b. b.items) c.index-block.ensures in
    let bytes = ap (λ (r : BlockBytes). take count (drop c.args.from r.bytes)) c.self.view_is in
    ap (λ ys. ys ++ drop count c.args.into.now)
    (c.copy_from_slice.ensures.after ∙ (ap (λ n. take n (drop at c.deref.result.now)) width ∙ (ap (λ ys. take count (drop at ys)) block ∙ (read ∙ bytes))))
