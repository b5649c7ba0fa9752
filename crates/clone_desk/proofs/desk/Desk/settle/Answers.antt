use Rattle.std.proofs.Common.{rules, ◌≡◌, [], ◌∷◌, ◌++◌, subst}
use Rattle.clone_desk.proofs.SettleLemmas.{Settles, settles_one}
use Rattle.clone_desk.proofs.desk.Desk.settle.Goals as goal

pub loop-connection-preserved : goal.loop-connection-preserved
loop-connection-preserved g c =
    let start = c.into_parts-net.result in
    let last : c.loop-connection.records.items ≡ c.pop.new.self.items ++ c.in-Some.connection ∷ [] = search rules in
    let before = subst (Settles g.N.Net g.N.End.Link start.0 start.1.items c.loop-connection.net) last c.loop-connection.invariant in
    settles_one g.N.Net g.N.End.Link start.0 start.1.items c.loop-connection.net c.settle_one.new.net c.pop.new.self.items c.in-Some.connection before
    c.settle_one.ensures.keeps c.settle_one.ensures.settled c.settle_one.ensures.unsettled c.settle_one.ensures.planned c.settle_one.ensures.count
