use Rattle.clone_network.specs.Connections.{given_up, opened}
use Rattle.clone_ending.specs.Service.{end_work}
use Rattle.clone_core.proofs.ServedLemmas.{ServedSo}
use Rattle.clone_core.proofs.world.World.raw.Given as goal

abbrev pub invariant-loop-connection : goal.invariant-loop-connection
invariant-loop-connection g l = ServedSo (given_up (opened l.fn.bytes)) l.fn.self l.connection l.self

abbrev pub decreases-loop-connection : goal.decreases-loop-connection
decreases-loop-connection g l = end_work l.self.donor.donor l.connection
