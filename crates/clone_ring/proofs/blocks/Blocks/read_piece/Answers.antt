use Rattle.std.proofs.Common.{◌≡◌, ◌+◌, ◌-◌, ◌%◌, ◌≤◌, ◌++◌, ◌∙◌, ap, arith, rules, take, drop, length}
use Rattle.clone_ring.specs.Row.{Row}
use Rattle.clone_ring.specs.declared.blocks.TheConstants.{RING_BLOCK}
use Rattle.clone_ring.proofs.RowLemmas.{block_at, part_at, read_in_block}
use Rattle.clone_ring.proofs.blocks.Blocks.read_piece.Goals as goal

pub slice_bounds-copy_from_slice-end-3 : goal.slice_bounds-copy_from_slice-end-3
slice_bounds-copy_from_slice-end-3 c =
    let blocks = c.self.inside.blocks.items in
    let size = c.self.inside.size in
    let seen = ap (λ (r : Row). length r.bytes) c.self.view_is in
    let row = c.self.invariant in
    let there = block_at blocks size c.args.at c.index-block.result.now row (omega (arith, c.requires.within, c.requires.some, seen, row.held)) c.index-block.ensures in
    let has = part_at blocks size c.args.at c.index-block.result.now row there in
    let long = ap length c.deref.ensures.value in
    let within : c.args.at % RING_BLOCK + c.min-count.result ≤ length c.deref.result.now = omega (arith, has.count, long, seen, c.requires.within, c.min-count.ensures) in
    search rules

pub returns-clause-filled : goal.returns-clause-filled
returns-clause-filled c =
    let from = c.args.at % RING_BLOCK in
    let count = c.min-count.result in
    let blocks = c.self.inside.blocks.items in
    let size = c.self.inside.size in
    let seen = ap (λ (r : Row). length r.bytes) c.self.view_is in
    let row = c.self.invariant in
    let there = block_at blocks size c.args.at c.index-block.result.now row (omega (arith, c.requires.within, c.requires.some, seen, row.held)) c.index-block.ensures in
    let read = read_in_block blocks size c.args.at count c.index-block.result.now row there (omega (arith, c.min-count.ensures)) in
    let width : from + count - from ≡ count = omega arith in
    let bytes = ap (λ (r : Row). take count (drop c.args.at r.bytes)) c.self.view_is in
    ap (λ ys. ys ++ drop count c.args.into.now)
    (c.copy_from_slice.ensures.after ∙ (ap (λ n. take n (drop from c.deref.result.now)) width ∙ (ap (λ ys. take count (drop from ys)) c.deref.ensures.value ∙ (read ∙ bytes))))
