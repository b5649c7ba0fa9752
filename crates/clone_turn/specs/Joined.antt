-- Seats that are joined one after the other, and the cell closed.
use Rattle.std.specs.Prelude.{◌≡◌, List, [], ◌∷◌, map}
use Rattle.clone_turn.specs.declared.view.Entry.{Entry}
use Rattle.clone_turn.specs.Runs.{Agree, calls}
use Rattle.clone_turn.specs.Seats.{SeatModel, joined_seat}

module _ {S C A : Type 0} where
  -- the seat after these were joined to it, one after the other
  abbrev pub Joins : SeatModel S C A → List (SeatModel S C A) → SeatModel S C A → Type 0
  Joins v [] u = u ≡ v
  Joins v (w ∷ ws) u =
      (t : SeatModel S C A) × Agree v.seen w.seen × (t ≡ joined_seat v w) × Joins t ws u

  -- the calls of each seat
  abbrev pub parts_of : List (SeatModel S C A) → List (List (Entry S C A))
  parts_of vs = map (λ (v : SeatModel S C A). calls v.seen) vs
