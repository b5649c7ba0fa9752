use Rattle.std.proofs.Common.{◌≡◌, ◌<◌, ◌*◌, length, drop}
use Rattle.clone_pool.specs.Tournament.{AreMatchedBut}
use Rattle.clone_pool.proofs.tournament.rematch.Given as goal

abbrev pub invariant-loop-node : goal.invariant-loop-node
invariant-loop-node l = record {
  low : l.node < l.count;
  long : length l.nodes.items ≡ 2 * l.count;
  matched : AreMatchedBut l.node l.count l.nodes.items;
  leaves : drop l.count l.nodes.items ≡ drop l.count l.fn.nodes.items;
}

abbrev pub decreases-loop-node : goal.decreases-loop-node
decreases-loop-node l = l.node
