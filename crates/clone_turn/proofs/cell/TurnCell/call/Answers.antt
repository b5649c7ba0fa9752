use Rattle.std.proofs.Common.{ap}
use Rattle.clone_turn.proofs.SeatLemmas.{called_seat}
use Rattle.clone_turn.proofs.cell.TurnCell.call.Goals as goal

pub returns : goal.returns
returns g c =
    called_seat _ _ _ _ _ c.seat.inside.raw.seat.table_id c.call.new.seat.seat.table_id c.seat.inside.raw.seat.me.0 c.call.new.seat.seat.me.0 _ (ap (λ x. x.first) c.self.view_is) c.seat.view_is c.call.ensures.seat c.call.ensures.call
