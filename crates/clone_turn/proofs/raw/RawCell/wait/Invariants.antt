use Rattle.std.proofs.Common.{◌≡◌}
use Rattle.clone_turn.proofs.raw.RawCell.wait.Given as goal

abbrev pub invariant-loop : goal.invariant-loop
invariant-loop g l =
    (goal.iterator-loop g).can_next l.iterator' × (goal.iterator-loop g).is_finite l.iterator'
    × (l.seat.seat.table_id ≡ l.fn.seat.seat.table_id) × (l.seat.seat.me ≡ l.fn.seat.seat.me)
