use Rattle.std.proofs.Common.{◌≡◌, ◌≤◌, [], true}
use Rattle.clone_serve.specs.declared.doing.Doing.TheVariants.{New}
use Rattle.clone_links.specs.Calling.{Works}
use Rattle.clone_links.specs.Turning.{IsTurn}
use Rattle.clone_links.proofs.server.Server.serve.Given as goal

-- what was done so far is as one turn
abbrev pub invariant-loop : goal.invariant-loop
invariant-loop g l =
    (goal.iterator-loop g).can_next l.iterator' × (goal.iterator-loop g).is_finite l.iterator'
    × Works (IsTurn New l.service.core [] l.service.received.items (g.L.Link.received l.fn.link) (g.L.Link.received l.link) (g.L.Link.sent l.fn.link) (g.L.Link.sent l.link)) l.fn.self l.self
    × (l.service.sent.items ≡ [])
    × (g.L.Link.failures l.fn.link ≤ g.L.Link.failures l.link)
    × (g.L.Link.name l.link ≡ g.L.Link.name l.fn.link)
    × (g.L.Link.side l.link ≡ g.L.Link.side l.fn.link)
    × (g.L.Link.is_open l.link ≡ true)
