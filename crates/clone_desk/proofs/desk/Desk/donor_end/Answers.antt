use Rattle.std.proofs.Common.{rules, ◌≡◌, ◌∙◌, Some, position, sym, ap, subst}
use Rattle.clone_desk.specs.Records.{does_wait_for, name_of}
use Rattle.clone_desk.specs.Desks.{DeskModel, IsNamed}
use Rattle.clone_desk.proofs.RecordLemmas.{named_set}
use Rattle.clone_desk.proofs.CallLemmas.{gives_end, gives_none, never_none}
use Rattle.clone_desk.proofs.desk.Desk.donor_end.Goals as goal

pub returns-in_err-place-clause-end : goal.returns-in_err-place-clause-end
returns-in_err-place-clause-end g c =
    gives_none g.N.End.Link g.N.Net c.args.self.now c.args.task c.from_residual.result (sym c.waiting_for.ensures ∙ c.in_err-place.was) (search rules)

pub returns-in_err-end-clause-end : goal.returns-in_err-end-clause-end
returns-in_err-end-clause-end g c =
    let first : position (does_wait_for c.args.task) c.self.inside.records.items ≡ Some c.in_ok-place.place =
    ap (λ (m : DeskModel _ _). position (does_wait_for c.args.task) m.records) c.self.view_is ∙ (sym c.waiting_for.ensures ∙ c.in_ok-place.was) in
    absurd (never_none c.self.inside.records.items c.args.task c.in_ok-place.place c.index_mut.result.now first (sym c.index_mut.ensures.value) (sym c.hand_out.ensures.end ∙ c.in_err-end.was))

pub returns-clause-end : goal.returns-clause-end
returns-clause-end g c =
    let first : position (does_wait_for c.args.task) c.self.inside.records.items ≡ Some c.in_ok-place.place =
    ap (λ (m : DeskModel _ _). position (does_wait_for c.args.task) m.records) c.self.view_is ∙ (sym c.waiting_for.ensures ∙ c.in_ok-place.was) in
    gives_end g.N.End.Link g.N.Net c.args.self.now c.self.inside.net c.self.inside.records.items c.args.task c.in_ok-place.place c.index_mut.result.now c.hand_out.new.self c.in_ok-end.end
    c.self.view_is c.self.invariant first (sym c.index_mut.ensures.value) (sym c.hand_out.ensures.end ∙ c.in_ok-end.was) c.in_ok-end.ensures.out

pub returns-clause-named : goal.returns-clause-named
returns-clause-named g c = λ place name is.
    let link = g.N.End.Link in
    named_set link c.self.inside.records.items c.in_ok-place.place c.index_mut.result.now c.hand_out.new.self (sym c.index_mut.ensures.value)
    (ap (name_of link) c.in_ok-end.ensures.out) place name
    (subst (λ (m : DeskModel _ _). IsNamed link m.records place name) (sym c.self.view_is) is)
