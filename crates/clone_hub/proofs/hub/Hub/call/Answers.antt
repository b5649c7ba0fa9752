use Rattle.std.proofs.Common.{subst}
use Rattle.std.specs.Arc.{arc_value}
use Rattle.clone_turn.specs.Seats.{CellModel, MakesCall}
use Rattle.clone_hub.specs.Gathering.{HubModel}
use Rattle.clone_hub.proofs.hub.Hub.call.Goals as goal

pub returns-clause-call : goal.returns-clause-call
returns-clause-call g c =
    let cell = arc_value c.self.inside.cell in
    let made : MakesCall g.M.Machine.steps cell.first c.self.inside.seat c.args.call c.call.result c.call.new.seat =
    subst (λ (x : CellModel _). MakesCall g.M.Machine.steps x.first c.self.inside.seat c.args.call c.call.result c.call.new.seat) c.deref.ensures c.call.ensures in
    subst (λ (h : HubModel _ _ _). MakesCall g.M.Machine.steps h.cell.first h.seat c.args.call c.call.result c.call.new.seat) c.self.view_is made
