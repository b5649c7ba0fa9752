use Rattle.std.proofs.Common.{rules, ◌≡◌, ◌<◌, ◌^◌, ◌++◌, ◌∷◌, [], length, sym, subst}
use Rattle.clone_desk.specs.Desks.{DeskModel, IsNamed}
use Rattle.clone_desk.proofs.RecordLemmas.{named_more}
use Rattle.clone_desk.proofs.CallLemmas.{NewPair, desk_pair, fresh, pair_made}
use Rattle.clone_desk.proofs.desk.Desk.pair.Goals as goal

pub invariant_of-self-2 : goal.invariant_of-self-2
invariant_of-self-2 g c =
    let rs = c.self.inside.records.items in
    let one = c.in_ok-donor_end in
    let more : c.push_reserved.new.self.items ≡ rs ++ fresh c.args.task c.of-about.result one.donor_end ∷ [] = search rules in
    let room : length rs < 2 ^ 32 = search rules in
    let pair : NewPair g.N.End.Link one.donor_end one.end = record { name = one.ensures.name; sides = one.ensures.sides; opened = one.ensures.open; sent = one.ensures.sent; received = one.ensures.received } in
    desk_pair g.N.End.Link g.N.Net c.self.inside.net c.pair.new.self rs c.push_reserved.new.self.items c.args.task c.of-about.result one.donor_end one.end c.self.invariant room more c.of-about.ensures pair c.pair.ensures.keeps one.ensures.made

pub returns-clause-made : goal.returns-clause-made
returns-clause-made g c =
    let rs = c.self.inside.records.items in
    let one = c.in_ok-donor_end in
    let more : c.push_reserved.new.self.items ≡ rs ++ fresh c.args.task c.of-about.result one.donor_end ∷ [] = search rules in
    let at : c.in-Ok.place ≡ length rs = search rules in
    let pair : NewPair g.N.End.Link one.donor_end one.end = record { name = one.ensures.name; sides = one.ensures.sides; opened = one.ensures.open; sent = one.ensures.sent; received = one.ensures.received } in
    pair_made g.N.End.Link g.N.Net c.args.self.now c.self.inside.net c.pair.new.self rs c.push_reserved.new.self.items c.args.task c.in-Ok.place c.of-about.result one.donor_end one.end c.self.view_is more at c.of-about.ensures pair one.ensures.made one.ensures.more

pub returns-clause-named : goal.returns-clause-named
returns-clause-named g c = λ place name is.
    let link = g.N.End.Link in
    let rs = c.self.inside.records.items in
    let new = fresh c.args.task c.of-about.result c.in_ok-donor_end.donor_end in
    let more : c.push_reserved.new.self.items ≡ rs ++ new ∷ [] = search rules in
    subst (λ xs. IsNamed link xs place name) (sym more)
    (named_more link rs new place name (subst (λ (m : DeskModel _ _). IsNamed link m.records place name) (sym c.self.view_is) is))
