use Rattle.std.proofs.Common.{◌≡◌, drop}
use Rattle.clone_network.specs.Networks.{all_given_up}
use Rattle.clone_network.proofs.GivingLemmas.{vacated_to}
use Rattle.clone_network.proofs.network.Network.hang_up.Given as goal

abbrev pub invariant-loop-task : goal.invariant-loop-task
invariant-loop-task l =
    (l.self.seats ≡ vacated_to l.task l.initial.self.seats)
    × (all_given_up (drop l.task l.initial.self.seats) l.self.connections ≡ all_given_up l.initial.self.seats l.initial.self.connections)
