use Rattle.clone_outside.proofs.StopLemmas.{orders_given}
use Rattle.clone_outside.proofs.orders.give_order.Goals as goal

pub returns : goal.returns
returns g c = orders_given c.args.order _ _ c.order.result c.requires c.order.ensures.given c.order.ensures.refused
