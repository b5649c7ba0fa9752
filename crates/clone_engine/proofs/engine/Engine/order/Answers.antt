use Rattle.clone_engine.specs.Over.{over}
use Rattle.clone_engine.proofs.SessionActs.{order_told, orders}
use Rattle.clone_engine.proofs.engine.Engine.order.Goals as goal

pub returns-clause-acts : goal.returns-clause-acts
returns-clause-acts g c =
    let k = g.D.PageDisk.state c.args.disk.now in
    let l = g.D.PageDisk.state c.give_order.new.disk in
    orders (over c.args.self.now k) l (order_told c.args.order k l c.give_order.result c.give_order.ensures) c.requires.donor
