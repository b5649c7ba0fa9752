use Rattle.std.proofs.Common.{◌≡◌, ◌+◌, ◌-◌, ◌%◌, ◌≤◌, ◌++◌, ◌∙◌, ap, arith, length, set, ◌/◌, take, drop, rules}
use Rattle.std.proofs.Common.{length-take, length-drop}
use Rattle.std.specs.Vec.{with_items}
use borrow.Rule.Slice.PartMut.{put_mid}
use Rattle.clone_archive.specs.BlockList.{BlockBytes}
use Rattle.clone_base.specs.declared.limits.TheConstants.{BLOCK_BYTES}
use Rattle.clone_archive.proofs.BlockListLemmas.{block_counts, last_block, whole_block, appended_in_block, IsAppended}
use Rattle.clone_archive.proofs.blocks.Blocks.append_piece.Goals as goal

pub index_mut-block-requires : goal.index_mut-block-requires
index_mut-block-requires c =
    let counts = block_counts _ _ _ c.self.invariant c.self.view_is in
    omega (arith, c.requires.room, c.requires.some, c.self.inside.blocks.ok.0)

pub slice_bounds-read-end : goal.slice_bounds-read-end
slice_bounds-read-end c =
    let counts = block_counts _ _ _ c.self.invariant c.self.view_is in
    let there = last_block c.self.inside.blocks.items c.self.inside.len c.args.limit (omega (arith, c.requires.room)) c.requires.some in
    let whole = whole_block _ _ _ c.index_mut-block.result.now c.self.invariant there c.index_mut-block.ensures.value in
    let long : length c.deref_mut.result.now ≡ 16384 = ap length c.deref_mut.ensures.value ∙ whole in
    let within : c.self.inside.len % 16384 + c.min-count.result ≤ length c.deref_mut.result.now = omega arith in
    search rules

-- the list with the bytes behind the others
appended : (c : goal.After-self-2-1)
    → IsAppended c.self.inside.blocks.items
    (set c.self.inside.blocks.items (c.self.inside.len / BLOCK_BYTES)
    (with_items c.index_mut-block.result.now (put_mid (c.self.inside.len % BLOCK_BYTES) (c.self.inside.len % BLOCK_BYTES + c.min-count.result - c.self.inside.len % BLOCK_BYTES) c.deref_mut.result.now c.read.new.into)))
    c.self.inside.len c.min-count.result c.read.new.into
appended c =
    let counts = block_counts _ _ _ c.self.invariant c.self.view_is in
    let room = c.requires.room in
    let some = c.requires.some in
    appended_in_block c.self.inside.blocks.items c.self.inside.len c.min-count.result _ c.index_mut-block.result.now c.deref_mut.result.now c.read.new.into
    c.self.invariant (omega arith) (omega arith) (omega arith) c.index_mut-block.ensures.value c.deref_mut.ensures.value (omega arith) c.read.auto.into

pub invariant_of-self : goal.invariant_of-self
invariant_of-self c = (appended c).are

pub returns-clause-appended : goal.returns-clause-appended
returns-clause-appended c =
    let counts = block_counts _ _ _ c.self.invariant c.self.view_is in
    let at = c.self.inside.len % BLOCK_BYTES in
    let old = c.deref_mut.result.now in
    let room = c.requires.room in
    let there = last_block c.self.inside.blocks.items c.self.inside.len c.args.limit (omega arith) c.requires.some in
    let whole = whole_block _ _ _ c.index_mut-block.result.now c.self.invariant there c.index_mut-block.ensures.value in
    let size = ap length c.deref_mut.ensures.value ∙ whole in
    let k = at + c.min-count.result - at in
    let long : length (take k (drop at old)) ≡ c.min-count.result = omega (arith, length-take k (drop at old), length-drop at old) in
    (appended c).bytes
    ∙ (ap (λ (r : BlockBytes). r.bytes ++ c.read.new.into) c.self.view_is
    ∙ ap (λ ys. c.args.self.now.bytes ++ ys) (c.read.ensures ∙ ap (λ n. take n (drop (c.args.from - c.args.ring.now.floor) c.args.ring.now.bytes)) long))
