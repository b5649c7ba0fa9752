use Rattle.clone_core.proofs.HoldsLemmas.{act_kept}
use Rattle.clone_core.proofs.world.World.delete.Goals as goal

pub invariant_of-self : goal.invariant_of-self
invariant_of-self g c = act_kept _ _ _ _ _ _ _ _ tt tt c.delete.ensures.acts c.self.invariant
