-- What a hub gathers of the calls that are made by seats that were split off its own.
use Rattle.std.specs.Prelude.{◌≡◌, List, ◌∷◌}
use Rattle.clone_turn.specs.declared.view.Entry.{Entry}
use Rattle.clone_turn.specs.Runs.{Agree, calls}
use Rattle.clone_turn.specs.Seats.{CellModel, SeatModel, joined_seat, left_seat, right_seat}
use Rattle.clone_turn.specs.Shares.{ShareAll}
use Rattle.clone_runs.specs.Shuffles.{IsShuffled}

-- a cell, and a seat there
pub record HubModel (S C A : Type 0) : Type 0 where
  pub cell : CellModel S
  pub seat : SeatModel S C A

module _ {S C A : Type 0} where
  -- A SEAT IS LENT: it is split off the hub's, at the same cell
  pub record IsLent (h : HubModel S C A) (cell : CellModel S) (seat : SeatModel S C A)
      (g : HubModel S C A) : Type 0 where
    pub cell_is : cell ≡ h.cell
    pub seat_is : seat ≡ right_seat h.seat
    pub same : g.cell ≡ h.cell
    pub left : g.seat ≡ left_seat h.seat

  -- A SEAT COMES BACK: the hub's has the calls and the shares of both
  pub record IsTaken (h : HubModel S C A) (seat : SeatModel S C A) (g : HubModel S C A)
      : Type 0 where
    pub same : g.cell ≡ h.cell
    pub agree : Agree h.seat.seen seat.seen
    pub joined : g.seat ≡ joined_seat h.seat seat

  -- THE HUB GATHERS what others did meanwhile: its share is what it was, and its calls are shuffled
  -- from those that it had and these
  pub record Gathers (parts : List (List (Entry S C A))) (h g : HubModel S C A) : Type 0 where
    pub same : g.cell ≡ h.cell
    pub shares : (vs : List (SeatModel S C A)) → ShareAll (h.seat ∷ vs) → ShareAll (g.seat ∷ vs)
    pub made : IsShuffled (calls h.seat.seen ∷ parts) (calls g.seat.seen)
