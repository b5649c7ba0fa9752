use Rattle.clone_core.proofs.HoldsLemmas.{act_kept}
use Rattle.clone_core.proofs.world.World.flush_half.Goals as goal

pub invariant_of-self : goal.invariant_of-self
invariant_of-self g c = act_kept _ _ _ _ _ _ _ _ tt tt c.flush_half.ensures.acts c.self.invariant
