use Rattle.clone_core.proofs.HoldsLemmas.{act_kept}
use Rattle.clone_core.proofs.world.World.commit.Goals as goal

pub invariant_of-self : goal.invariant_of-self
invariant_of-self g c = act_kept _ _ _ _ _ _ _ _ tt (λ commit active. c.laws.ensures.safe.locked.few.few _ commit active) c.commit.ensures.acts c.self.invariant
