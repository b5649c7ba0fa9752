use Rattle.std.proofs.Common.{◌≡◌}
use Rattle.clone_turn.proofs.raw.RawCell.draw_free.Given as goal

abbrev pub invariant-loop : goal.invariant-loop
invariant-loop g l = (l.seat.seat.table_id ≡ l.fn.seat.seat.table_id) × (l.seat.seat.me ≡ l.fn.seat.seat.me)
