use Rattle.clone_turn.proofs.SeatLemmas.{joined_knows}
use Rattle.clone_turn.proofs.cell.TurnCell.join.Goals as goal

pub returns-clause-knows : goal.returns-clause-knows
returns-clause-knows g c = (joined_knows c.seat.inside.raw.seat.me.0 c.into_raw.result.seat.me.0 _ _ _ _ _ c.seat.view_is c.into_raw.ensures.seat c.join.ensures.agree c.join.ensures.joined).0

pub returns-clause-knows_other : goal.returns-clause-knows_other
returns-clause-knows_other g c = (joined_knows c.seat.inside.raw.seat.me.0 c.into_raw.result.seat.me.0 _ _ _ _ _ c.seat.view_is c.into_raw.ensures.seat c.join.ensures.agree c.join.ensures.joined).1

pub returns-clause-calls : goal.returns-clause-calls
returns-clause-calls g c = (joined_knows c.seat.inside.raw.seat.me.0 c.into_raw.result.seat.me.0 _ _ _ _ _ c.seat.view_is c.into_raw.ensures.seat c.join.ensures.agree c.join.ensures.joined).2

pub returns-clause-order : goal.returns-clause-order
returns-clause-order g c = (joined_knows c.seat.inside.raw.seat.me.0 c.into_raw.result.seat.me.0 _ _ _ _ _ c.seat.view_is c.into_raw.ensures.seat c.join.ensures.agree c.join.ensures.joined).3

pub returns-clause-order_other : goal.returns-clause-order_other
returns-clause-order_other g c = (joined_knows c.seat.inside.raw.seat.me.0 c.into_raw.result.seat.me.0 _ _ _ _ _ c.seat.view_is c.into_raw.ensures.seat c.join.ensures.agree c.join.ensures.joined).4
