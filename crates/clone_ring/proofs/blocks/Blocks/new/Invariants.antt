use Rattle.std.proofs.Common.{◌≡◌, ◌≤◌, ◌<◌, ◌*◌, ◌-◌, [], length}
use Rattle.clone_ring.specs.Row.{IsRow, joined}
use Rattle.clone_ring.specs.declared.blocks.TheConstants.{RING_BLOCK}
use Rattle.clone_ring.proofs.blocks.Blocks.new.Given as goal

-- the blocks so far have no bytes, and while more are to come they all have their whole room
abbrev pub invariant-loop-made : goal.invariant-loop-made
invariant-loop-made l = record {
  row : IsRow l.blocks.items l.made;
  empty : joined l.blocks.items ≡ [];
  within : l.made ≤ l.size;
  whole : l.made < l.size → l.made ≡ RING_BLOCK * length l.blocks.items;
}

abbrev pub decreases-loop-made : goal.decreases-loop-made
decreases-loop-made l = l.size - l.made
