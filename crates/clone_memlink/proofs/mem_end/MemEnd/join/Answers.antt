use Rattle.std.proofs.Common.{rules, ◌≡◌, ap, sym}
use Rattle.std.specs.Arc.{arc_value}
use Rattle.clone_outside.specs.declared.link.Side.TheVariants.{Donor, Requester}
use Rattle.clone_turn.specs.Runs.{Agree}
use Rattle.clone_turn.specs.Seats.{ClosesAt, joined_seat}
use Rattle.clone_memlink.specs.Connections.{Steps}
use Rattle.clone_memlink.specs.Held.{EndModel, IsHalf}
use Rattle.clone_memlink.proofs.JoinedEndLemmas.{to_donor, to_requester, ends_to_donor, ends_to_requester}
use Rattle.clone_memlink.proofs.mem_end.MemEnd.join.Goals as goal

pub returns-clause-to_donor : goal.returns-clause-to_donor
returns-clause-to_donor g c =
    let cell = (arc_value c.self.inside.line).cell in
    let p = c.self.inside.seat in
    let q = c.into_seat.result in
    let a : IsHalf cell Donor p = search rules in
    let b : IsHalf cell Requester q = search rules in
    let agree : Agree p.seen q.seen = search rules in
    let joined : c.join.new.seat ≡ joined_seat p q = search rules in
    let closed : ClosesAt Steps cell.first c.join.new.seat c.close-last.result = search rules in
    let mine = sym (ap (λ (v : EndModel). v.seat) c.self.view_is) in
    ends_to_donor c.args.self c.args.other p q mine (sym c.into_seat.ensures.seat) c.requires.donor c.requires.requester (to_donor cell p q c.join.new.seat c.close-last.result a b agree joined closed)

pub returns-clause-to_requester : goal.returns-clause-to_requester
returns-clause-to_requester g c =
    let cell = (arc_value c.self.inside.line).cell in
    let p = c.self.inside.seat in
    let q = c.into_seat.result in
    let a : IsHalf cell Donor p = search rules in
    let b : IsHalf cell Requester q = search rules in
    let agree : Agree p.seen q.seen = search rules in
    let joined : c.join.new.seat ≡ joined_seat p q = search rules in
    let closed : ClosesAt Steps cell.first c.join.new.seat c.close-last.result = search rules in
    let mine = sym (ap (λ (v : EndModel). v.seat) c.self.view_is) in
    ends_to_requester c.args.self c.args.other p q mine (sym c.into_seat.ensures.seat) c.requires.donor c.requires.requester (to_requester cell p q c.join.new.seat c.close-last.result a b agree joined closed)
