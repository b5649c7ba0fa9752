use Rattle.std.proofs.Common.{◌≡◌, ◌+◌, ◌-◌, ◌%◌, ◌/◌, ◌≤◌, set, ◌∙◌, ap, sym, arith, rules, take, length, true, vec_len, vec_capacity}
use Rattle.std.proofs.Common.{length-take}
use Rattle.std.specs.Result.{is_ok}
use Rattle.std.specs.Vec.{with_items}
use borrow.Rule.Slice.PartMut.{put_mid}
use Rattle.clone_ring.specs.Row.{Row, written}
use Rattle.clone_ring.specs.declared.blocks.TheConstants.{RING_BLOCK}
use Rattle.clone_ring.proofs.RowLemmas.{block_at, part_at, written_over, written_behind, WritesRow}
use Rattle.clone_ring.proofs.blocks.Blocks.write_piece.Goals as goal

-- the blocks after some bytes were written over others
over : (c : goal.After-self-then-from-len-1) → WritesRow c.self.inside.blocks.items
    (set c.self.inside.blocks.items (c.args.at / RING_BLOCK)
    (with_items c.index_mut-block.result.now (put_mid (c.args.at % RING_BLOCK) (c.args.at % RING_BLOCK + c.min-count.result - c.args.at % RING_BLOCK) c.deref_mut.result.now c.copy_from_slice.new.self)))
    c.self.inside.size c.args.at (take c.min-count.result c.args.bytes.now)
over c =
    let seen = ap (λ (r : Row). length r.bytes) c.self.view_is in
    let sized = ap (λ (r : Row). r.size) c.self.view_is in
    let block = c.index_mut-block.result.now in
    let count = c.min-count.result in
    let few = c.min-count.ensures in
    written_over c.self.inside.blocks.items c.self.inside.size c.args.at count (c.args.at % RING_BLOCK + count - c.args.at % RING_BLOCK)
    block c.deref_mut.result.now c.copy_from_slice.new.self c.args.bytes.now c.self.invariant c.index_mut-block.ensures.value c.deref_mut.ensures.value
    (omega (arith, seen, c.requires.behind)) (omega (arith, c.requires.room, few, sized)) (omega (arith, few, c.len-then-from-len.ensures, c.if-from-len.true, block.ok.0))
    (omega (arith, few, c.requires.some, c.if-from-len.true, c.len.ensures, c.len-then-from-len.ensures)) (omega (arith, few)) (omega arith) c.copy_from_slice.ensures.after

pub invariant_of-self : goal.invariant_of-self
invariant_of-self c = (over c).row

pub returns-then-from-len-clause-bytes : goal.returns-then-from-len-clause-bytes
returns-then-from-len-clause-bytes c =
    (over c).bytes ∙ ap (λ (r : Row). written c.args.at (take c.min-count.result c.args.bytes.now) r.bytes) c.self.view_is

pub prove-unreachable-requires : goal.prove-unreachable-requires
prove-unreachable-requires c =
    let seen = ap (λ (r : Row). length r.bytes) c.self.view_is in
    let sized = ap (λ (r : Row). r.size) c.self.view_is in
    let block = c.index_mut-block.result.now in
    let count = c.min-count-2.result in
    let blocks = c.self.inside.blocks.items in
    let there = block_at blocks c.self.inside.size c.args.at block c.self.invariant (omega (arith, c.requires.room, c.requires.some, sized)) c.index_mut-block.ensures.value in
    let has = part_at blocks c.self.inside.size c.args.at block c.self.invariant there in
    let room : vec_len block + length (take count c.args.bytes.now) ≤ vec_capacity block =
    omega (arith, has.count, has.room, seen, sized, c.requires.room, c.requires.behind, c.min-count-2.ensures, c.if-from-len.false, c.len.ensures, block.ok.0, length-take count c.args.bytes.now) in
    let done = c.extend_from_slice-appended.ensures.succeeds room in
    search rules

-- the blocks after some bytes were put behind the others
behind : (c : goal.Else-prove) → WritesRow c.self.inside.blocks.items
    (set c.self.inside.blocks.items (c.args.at / RING_BLOCK) c.extend_from_slice-appended.new.self) c.self.inside.size c.args.at (take c.min-count-2.result c.args.bytes.now)
behind c =
    let seen = ap (λ (r : Row). length r.bytes) c.self.view_is in
    let sized = ap (λ (r : Row). r.size) c.self.view_is in
    let block = c.index_mut-block.result.now in
    let count = c.min-count-2.result in
    let few = c.min-count-2.ensures in
    let blocks = c.self.inside.blocks.items in
    let there = block_at blocks c.self.inside.size c.args.at block c.self.invariant (omega (arith, c.requires.room, c.requires.some, sized)) c.index_mut-block.ensures.value in
    let done : is_ok c.extend_from_slice-appended.result ≡ true = sym c.is_ok.ensures.value ∙ c.if-prove.false in
    let items = rw done at c.extend_from_slice-appended.ensures.items in
    written_behind blocks c.self.inside.size c.args.at count block c.extend_from_slice-appended.new.self c.args.bytes.now c.self.invariant there
    (omega (arith, seen, c.requires.behind)) (omega (arith, c.requires.room, few, sized)) (omega (arith, c.if-from-len.false, c.len.ensures, block.ok.0)) (omega (arith, few))
    (omega (arith, few, c.requires.some)) (omega (arith, few)) items c.extend_from_slice-appended.ensures.capacity

pub invariant_of-self-2 : goal.invariant_of-self-2
invariant_of-self-2 c = (behind c).row

pub returns-clause-bytes : goal.returns-clause-bytes
returns-clause-bytes c = (behind c).bytes ∙ ap (λ (r : Row). written c.args.at (take c.min-count-2.result c.args.bytes.now) r.bytes) c.self.view_is
