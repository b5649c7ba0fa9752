use Rattle.std.proofs.Common.{◌≡◌, ◌<◌, ◌∙◌, ap, arith}
use Rattle.clone_base.specs.declared.limits.TheConstants.{LSN_LIMIT}
use Rattle.clone_archive.specs.BlockList.{BlockBytes, AreBlocks, IsWhole, room_in, bytes_in}
use Rattle.clone_archive.proofs.BlockListLemmas.{block_counts, added_block}
use Rattle.clone_archive.proofs.blocks.Blocks.add_block.Goals as goal

-- the list with the block that was made
longer : (c : goal.In_ok-push) → AreBlocks c.push.new.self.items c.self.inside.len × (bytes_in c.push.new.self.items c.self.inside.len ≡ bytes_in c.self.inside.blocks.items c.self.inside.len)
longer c =
    let block = c.in_ok-vec.field-0 in
    let counts = block_counts _ _ _ c.self.invariant c.self.view_is in
    let whole : IsWhole block = omega (arith, block.ok.0, c.in_ok-vec.ensures.len) in
    let below : room_in c.self.inside.blocks.items < LSN_LIMIT = omega (arith, counts.1, c.requires) in
    rw c.in_ok-push.ensures.items (added_block _ _ block c.self.invariant below whole)

pub invariant_of-self-2 : goal.invariant_of-self-2
invariant_of-self-2 c = (longer c).0

pub returns-clause-bytes : goal.returns-clause-bytes
returns-clause-bytes c = (longer c).1 ∙ ap (λ (r : BlockBytes). r.bytes) c.self.view_is
