use Rattle.clone_engine.proofs.SessionActs.{order_told}
use Rattle.clone_core.proofs.OrderedLemmas.{recipient_holds, recipient_kept, recipient_noted}
use Rattle.clone_core.proofs.UntoldLemmas.{on_err}
use Rattle.clone_core.proofs.world.World.recipient_order_line.Goals as goal

pub invariant_of-self : goal.invariant_of-self
invariant_of-self g c = recipient_holds _ _ (order_told _ _ _ _ c.give_order.ensures) _ _ _ _ c.self.invariant

pub returns-in_err-give_order-clause-err : goal.returns-in_err-give_order-clause-err
returns-in_err-give_order-clause-err g c = on_err c.from_residual-in_err-give_order.result _ (recipient_kept _ _ _ _ _ _ c.self.view_is _ c.in_err-give_order.ensures)

pub returns-clause-ok : goal.returns-clause-ok
returns-clause-ok g c = recipient_noted _ _ _ _ _ _ c.self.view_is _ c.args.order _ c.in_ok-give_order.ensures c.in_ok-text.ensures.ok
