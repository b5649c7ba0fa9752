use Rattle.clone_links.proofs.LoopLemmas.{aside_last, aside_then, halted_lasts, took_lasts, took_loss, took_turns}
use Rattle.clone_links.proofs.service.Service.turn.Goals as goal

pub returns-then-is_halted-clause-ends : goal.returns-then-is_halted-clause-ends
returns-then-is_halted-clause-ends g c =
    halted_lasts c.args.server.now c.is_halted.new.self c.is_halted.result c.args.self.now.core c.args.self.now.received.items (g.L.Link.received c.args.link.now) (g.L.Link.sent c.args.link.now) c.if-is_halted.true c.is_halted.ensures

pub returns-in-Ok-true-clause-goes_on : goal.returns-in-Ok-true-clause-goes_on
returns-in-Ok-true-clause-goes_on g c =
    took_turns c.args.server.now c.is_halted.new.self c.go_on.new.server c.is_halted.result c.args.self.now.core c.go_on.new.self.core c.args.self.now.received.items c.go_on.new.self.received.items c.take_in.new.received.items
    (g.L.Link.received c.args.link.now) (g.L.Link.received c.go_on.new.link) (g.L.Link.received c.take_in.new.link) (g.L.Link.sent c.args.link.now) (g.L.Link.sent c.go_on.new.link) (g.L.Link.sent c.take_in.new.link)
    c.is_halted.ensures c.in-Ok-true.ensures.goes_on c.take_in.result c.take_in.ensures.received c.take_in.ensures.sent

pub returns-in-Ok-true-clause-ends : goal.returns-in-Ok-true-clause-ends
returns-in-Ok-true-clause-ends g c =
    took_lasts c.args.server.now c.is_halted.new.self c.go_on.new.server c.is_halted.result c.args.self.now.core c.go_on.new.self.core c.args.self.now.received.items c.go_on.new.self.received.items c.take_in.new.received.items
    (g.L.Link.received c.args.link.now) (g.L.Link.received c.go_on.new.link) (g.L.Link.received c.take_in.new.link) (g.L.Link.sent c.args.link.now) (g.L.Link.sent c.go_on.new.link) (g.L.Link.sent c.take_in.new.link)
    c.is_halted.ensures c.in-Ok-true.ensures.goes_on c.take_in.result c.take_in.ensures.received c.take_in.ensures.sent c.take_in.ensures.ends

pub returns-in-Ok-true-clause-lost : goal.returns-in-Ok-true-clause-lost
returns-in-Ok-true-clause-lost g c =
    took_loss c.take_in.result (g.L.Link.failures c.args.link.now) (g.L.Link.failures c.go_on.new.link) (g.L.Link.failures c.take_in.new.link) c.go_on.ensures.count c.take_in.ensures.lost

pub returns-in-Ok-false-clause-goes_on : goal.returns-in-Ok-false-clause-goes_on
returns-in-Ok-false-clause-goes_on g c =
    aside_then c.args.server.now c.is_halted.new.self c.go_on.new.server c.is_halted.result c.args.self.now.core c.args.self.now.received.items
    (g.L.Link.received c.args.link.now) (g.L.Link.received c.go_on.new.link) (g.L.Link.sent c.args.link.now) (g.L.Link.sent c.go_on.new.link)
    c.is_halted.ensures c.go_on.new.self.core c.go_on.new.self.received.items c.in-Ok-false.ensures.goes_on

pub returns-in-Err-clause-ends : goal.returns-in-Err-clause-ends
returns-in-Err-clause-ends g c =
    aside_last c.args.server.now c.is_halted.new.self c.go_on.new.server c.is_halted.result c.args.self.now.core c.args.self.now.received.items
    (g.L.Link.received c.args.link.now) (g.L.Link.received c.go_on.new.link) (g.L.Link.sent c.args.link.now) (g.L.Link.sent c.go_on.new.link)
    c.is_halted.ensures c.in-Err.end c.in-Err.ensures.ends
