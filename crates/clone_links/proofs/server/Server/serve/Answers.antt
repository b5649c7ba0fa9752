use Rattle.std.proofs.Common.{◌∙◌, arith, refl}
use Rattle.clone_links.proofs.CauseLemmas.{loss_later}
use Rattle.clone_links.proofs.LoopLemmas.{begun, served_by, turns_on}
use Rattle.clone_links.proofs.server.Server.serve.Goals as goal

pub loop-init : goal.loop-init
loop-init g c = (
  tt,
  tt,
  begun c.args.self.now c.new-service.result.core c.new-service.result.received.items (g.L.Link.received c.args.link.now) (g.L.Link.sent c.args.link.now) c.new-service.ensures.core c.new-service.ensures.received,
  c.new-service.ensures.sent,
  omega arith,
  refl,
  refl,
  c.requires,
)

pub returns-in-Err-clause-serves : goal.returns-in-Err-clause-serves
returns-in-Err-clause-serves g c =
    served_by c.args.self.now c.loop.self c.turn.new.server c.loop.service.core c.loop.service.received.items
    (g.L.Link.received c.args.link.now) (g.L.Link.received c.loop.link) (g.L.Link.received c.turn.new.link) (g.L.Link.sent c.args.link.now) (g.L.Link.sent c.loop.link) (g.L.Link.sent c.turn.new.link)
    c.loop.invariant.2 c.in-Err.end c.in-Err.ensures.ends

pub returns-in-Err-clause-lost : goal.returns-in-Err-clause-lost
returns-in-Err-clause-lost g c =
    loss_later c.in-Err.end (g.L.Link.failures c.args.link.now) (g.L.Link.failures c.loop.link) (g.L.Link.failures c.turn.new.link) c.loop.invariant.4 c.in-Err.ensures.lost

pub loop-preserved : goal.loop-preserved
loop-preserved g c = (
  tt,
  tt,
  turns_on c.args.self.now c.loop.self c.turn.new.server c.loop.service.core c.loop.service.received.items
      (g.L.Link.received c.args.link.now) (g.L.Link.received c.loop.link) (g.L.Link.received c.turn.new.link) (g.L.Link.sent c.args.link.now) (g.L.Link.sent c.loop.link) (g.L.Link.sent c.turn.new.link)
      c.loop.invariant.2 c.turn.new.self.core c.turn.new.self.received.items c.in_default.ensures.goes_on,
  c.in_default.ensures.sent,
  (let before = c.loop.invariant.4 in let after = c.turn.ensures.count in omega arith),
  c.turn.ensures.name ∙ c.loop.invariant.5,
  c.turn.ensures.side ∙ c.loop.invariant.6,
  c.turn.ensures.open ∙ c.loop.invariant.7,
)
