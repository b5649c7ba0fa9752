use Rattle.clone_engine.specs.Acts as act
use Rattle.clone_core.proofs.HoldsLemmas.{act_kept}
use Rattle.clone_core.proofs.OrderedLemmas.{donor_kept, donor_noted}
use Rattle.clone_core.proofs.UntoldLemmas.{on_err}
use Rattle.clone_core.proofs.world.World.donor_order_line.Goals as goal

pub invariant_of-self : goal.invariant_of-self
invariant_of-self g c = act_kept act.Orders _ _ _ _ _ _ _ tt tt c.order.ensures.acts c.self.invariant

pub invariant_of-self-2 : goal.invariant_of-self-2
invariant_of-self-2 g c = act_kept act.Orders _ _ _ _ _ _ _ tt tt c.order.ensures.acts c.self.invariant

pub returns-in_err-order-clause-err : goal.returns-in_err-order-clause-err
returns-in_err-order-clause-err g c = on_err c.from_residual-in_err-order.result _ (donor_kept _ _ _ _ _ _ c.self.view_is _ c.in_err-order.ensures.disk c.order.ensures.acts)

pub returns-clause-ok : goal.returns-clause-ok
returns-clause-ok g c = donor_noted _ _ _ _ _ _ c.self.view_is _ c.args.order _ c.in_ok-order.ensures.disk c.order.ensures.acts c.in_ok-text.ensures.ok
