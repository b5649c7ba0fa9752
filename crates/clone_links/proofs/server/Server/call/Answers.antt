use Rattle.std.proofs.Common.{ap, sym, refl, subst}
use Rattle.std.specs.Arc.{arc_value}
use Rattle.clone_turn.specs.Seats.{CellModel, MakesCall}
use Rattle.clone_machine.specs.Sharing.{SharedDonor, Steps}
use Rattle.clone_links.specs.Calling.{Server}
use Rattle.clone_links.proofs.LoopLemmas.{called, of_after, step_made}
use Rattle.clone_links.proofs.server.Server.call.Goals as goal

pub invariant_of-self : goal.invariant_of-self
invariant_of-self g c =
    let cell = arc_value c.self.inside.cell in
    let made : MakesCall Steps cell.first c.self.inside.seat c.args.call c.call.result c.call.new.seat = subst (λ (x : CellModel SharedDonor). MakesCall Steps x.first c.self.inside.seat c.args.call c.call.result c.call.new.seat) c.deref.ensures c.call.ensures in
    of_after cell.first c.self.inside.seat c.call.new.seat c.args.call c.call.result made cell c.self.invariant

pub returns-clause-made : goal.returns-clause-made
returns-clause-made g c =
    let cell = arc_value c.self.inside.cell in
    let made : MakesCall Steps cell.first c.self.inside.seat c.args.call c.call.result c.call.new.seat = subst (λ (x : CellModel SharedDonor). MakesCall Steps x.first c.self.inside.seat c.args.call c.call.result c.call.new.seat) c.deref.ensures c.call.ensures in
    called cell.first c.self.inside.seat c.call.new.seat c.args.call c.call.result made
    c.args.self.now (record { cell = cell; seat = c.call.new.seat }) (sym (ap (λ (s : Server). s.seat) c.self.view_is)) refl (ap (λ (s : Server). s.cell) c.self.view_is)

pub returns-clause-step : goal.returns-clause-step
returns-clause-step g c =
    let cell = arc_value c.self.inside.cell in
    let made : MakesCall Steps cell.first c.self.inside.seat c.args.call c.call.result c.call.new.seat = subst (λ (x : CellModel SharedDonor). MakesCall Steps x.first c.self.inside.seat c.args.call c.call.result c.call.new.seat) c.deref.ensures c.call.ensures in
    step_made cell.first c.self.inside.seat c.call.new.seat c.args.call c.call.result made
