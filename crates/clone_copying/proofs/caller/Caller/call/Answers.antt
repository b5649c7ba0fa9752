use Rattle.std.proofs.Common.{sym, subst}
use Rattle.std.specs.Arc.{arc_value}
use Rattle.clone_turn.specs.Runs.{end_of, entries}
use Rattle.clone_turn.specs.Seats.{CellModel, MakesCall, SeatModel}
use Rattle.clone_turn.proofs.WorkedLemmas.{makes_of, makes_one}
use Rattle.clone_copying.specs.Calling.{Calls, FitsNow}
use Rattle.clone_copying.proofs.caller.Caller.call.Goals as goal

pub call-requires-clause-fits : goal.call-requires-clause-fits
call-requires-clause-fits g c = λ κs outlive.
    subst (λ (x : CellModel _). g.M.Machine.fits c.args.call (end_of x.first (entries c.self.inside.seat.seen))) (sym c.deref.ensures)
    (subst (λ (v : SeatModel _ _ _). FitsNow g.M.Machine.fits c.args.call v) (sym c.self.view_is) c.requires (arc_value c.self.inside.cell).first c.self.invariant.1)

pub invariant_of-self : goal.invariant_of-self
invariant_of-self g c =
    let cell = arc_value c.self.inside.cell in
    let made : MakesCall g.M.Machine.steps cell.first c.self.inside.seat c.args.call c.call.result c.call.new.seat =
    subst (λ (x : CellModel _). MakesCall g.M.Machine.steps x.first c.self.inside.seat c.args.call c.call.result c.call.new.seat) c.deref.ensures c.call.ensures in
    let one = makes_one g.M.Machine.steps cell.first c.self.inside.seat c.call.new.seat c.args.call c.call.result made in
    makes_of cell c.self.inside.seat c.call.new.seat _ one.1 c.self.invariant

pub returns : goal.returns
returns g c =
    let cell = arc_value c.self.inside.cell in
    let made : MakesCall g.M.Machine.steps cell.first c.self.inside.seat c.args.call c.call.result c.call.new.seat =
    subst (λ (x : CellModel _). MakesCall g.M.Machine.steps x.first c.self.inside.seat c.args.call c.call.result c.call.new.seat) c.deref.ensures c.call.ensures in
    subst (λ (v : SeatModel _ _ _). Calls g.M.Machine.steps v c.args.call c.call.result c.call.new.seat) c.self.view_is (cell.first, c.self.invariant.1, made)
