use Rattle.std.proofs.Common.{◌≤◌, ◌-◌, length}
use Rattle.clone_network.specs.Networks.{AreEnded}
use Rattle.clone_network.proofs.network.Network.open_from.Given as goal

abbrev pub invariant-loop-number : goal.invariant-loop-number
invariant-loop-number l = AreEnded l.initial.self.connections l.initial.from l.number × (l.initial.from ≤ l.number)

abbrev pub decreases-loop-number : goal.decreases-loop-number
decreases-loop-number l = length l.initial.self.connections - l.number
