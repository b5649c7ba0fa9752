use Rattle.std.proofs.Common.{◌∙◌, refl, sym, ap, subst, set, arith}
use Rattle.clone_desk.specs.Records.{name_of}
use Rattle.clone_desk.specs.Desks.{DeskModel, IsDesk, IsNamed, Keeps}
use Rattle.clone_desk.proofs.RecordLemmas.{desk_kept, named_low, named_set, same_name}
use Rattle.clone_desk.proofs.desk.Desk.give_back.Goals as goal

pub index_mut-requires : goal.index_mut-requires
index_mut-requires g c =
    let link = g.N.End.Link in
    let named = subst (λ (m : DeskModel _ _). IsNamed link m.records c.args.place (link.name c.args.end)) (sym c.self.view_is) c.requires.0 in
    omega (arith, named_low link c.self.inside.records.items c.args.place (link.name c.args.end) named, c.self.inside.records.ok.0)

pub invariant_of-self : goal.invariant_of-self
invariant_of-self g c =
    let link = g.N.End.Link in
    let rs = c.self.inside.records.items in
    let there = c.index_mut.result.now in
    let named = subst (λ (m : DeskModel _ _). IsNamed link m.records c.args.place (link.name c.args.end)) (sym c.self.view_is) c.requires.0 in
    subst (λ r. IsDesk g.N.Net link c.self.inside.net (set rs c.args.place r)) (sym c.keep.ensures)
    (desk_kept link g.N.Net c.self.inside.net rs c.args.place c.args.side c.args.end there c.self.invariant (sym c.index_mut.ensures.value) named c.requires.1)

pub returns-clause-kept : goal.returns-clause-kept
returns-clause-kept g c =
    subst (λ (m : DeskModel _ _). Keeps m c.args.place c.args.side c.args.end (record { net = c.self.inside.net; records = set c.self.inside.records.items c.args.place c.keep.new.self })) c.self.view_is
    (record {
      there = c.index_mut.result.now;
      at = sym c.index_mut.ensures.value;
      records = ap (set c.self.inside.records.items c.args.place) c.keep.ensures;
      net = refl;
    })

pub returns-clause-named : goal.returns-clause-named
returns-clause-named g c = λ place name is.
    let link = g.N.End.Link in
    let there = c.index_mut.result.now in
    named_set link c.self.inside.records.items c.args.place there c.keep.new.self (sym c.index_mut.ensures.value)
    (ap (name_of link) c.keep.ensures ∙ same_name link c.args.side c.args.end there) place name
    (subst (λ (m : DeskModel _ _). IsNamed link m.records place name) (sym c.self.view_is) is)
