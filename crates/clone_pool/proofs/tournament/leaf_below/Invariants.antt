use Rattle.std.proofs.Common.{◌≡◌, ◌<◌, ◌-◌, ◌*◌}
use Rattle.clone_pool.specs.Tournament.{rank_at}
use Rattle.clone_pool.proofs.tournament.leaf_below.Given as goal

abbrev pub invariant-loop-node : goal.invariant-loop-node
invariant-loop-node l = record {
  some : 0 < l.node;
  high : l.node < 2 * l.count;
  key : rank_at l.nodes l.node ≡ rank_at l.nodes 1;
}

abbrev pub decreases-loop-node : goal.decreases-loop-node
decreases-loop-node l = 2 * l.count - l.node
