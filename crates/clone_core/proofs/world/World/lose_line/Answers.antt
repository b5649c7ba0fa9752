use Rattle.std.proofs.Common.{refl}
use Rattle.clone_script.specs.declared.lines.Line.TheVariants as lines
use Rattle.clone_core.proofs.FollowLemmas.{lose_says}
use Rattle.clone_core.proofs.LineLemmas.{same_breaks}
use Rattle.clone_core.proofs.ReplicaLemmas.{replica_holds}
use Rattle.clone_core.proofs.world.World.lose_line.Goals as goal

pub returns-in_err-text-clause-err : goal.returns-in_err-text-clause-err
returns-in_err-text-clause-err g c = same_breaks c.args.self.now lines.Lose c.from_residual.result

pub invariant_of-self : goal.invariant_of-self
invariant_of-self g c = replica_holds _ c.set_to_lose.new.self _ _ _ _ c.self.invariant

pub returns-clause-ok : goal.returns-clause-ok
returns-clause-ok g c = lose_says _ c.args.self.now c.set_to_lose.new.self _ c.self.view_is refl c.set_to_lose.ensures c.in_ok-text.ensures.ok
