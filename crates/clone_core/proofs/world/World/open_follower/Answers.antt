use Rattle.std.proofs.Common.{refl}
use Rattle.clone_core.proofs.FollowLemmas.{opens_err, opens_ok}
use Rattle.clone_core.proofs.ReplicaLemmas.{replica_holds}
use Rattle.clone_core.proofs.world.World.open_follower.Goals as goal

pub invariant_of-self : goal.invariant_of-self
invariant_of-self g c = replica_holds _ c.open.new.self _ _ _ _ c.self.invariant

pub returns-clause-ok : goal.returns-clause-ok
returns-clause-ok g c = opens_ok _ c.args.self.now c.args.rows.now c.args.position c.open.new.self c.open.result c.self.view_is refl c.open.ensures.ok

pub returns-clause-err : goal.returns-clause-err
returns-clause-err g c = opens_err _ c.args.self.now c.open.new.self c.open.result c.self.view_is refl c.open.ensures.err
