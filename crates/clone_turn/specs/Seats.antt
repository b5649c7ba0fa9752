-- What contracts see of a cell and of a seat.
use Rattle.std.specs.Prelude.{ℕ, ◌≡◌, ◌+◌, ◌*◌, ◌-◌, ◌^◌, max, Bool, true, List, [], ◌∷◌, ◌++◌, Some, None}
use Rattle.std.specs.declared.option.Option.{Option}
use Rattle.atomic_table.specs.Seated.{TableId}
use Rattle.clone_turn.specs.declared.view.Entry.{Entry}
use Rattle.clone_turn.specs.declared.view.View.{View}
use Rattle.clone_turn.specs.Runs.{IsLegalRun, end_of, entries, others, calls, meld}

-- a cell: which one, and its first state
pub record CellModel (S : Type 0) : Type 0 where
  pub cell : TableId
  pub first : S

-- a seat: its cell, with the first state; what it has seen of the run, each entry with whether it
-- is its own; and its share, part / 2 ^ halvings of the whole
pub record SeatModel (S C A : Type 0) : Type 0 where
  pub cell : TableId
  pub first : Option S
  pub seen : List (Entry S C A × Bool)
  pub part : ℕ
  pub halvings : ℕ

module _ {S C A : Type 0} where
  abbrev pub seat_of : TableId → View S C A → SeatModel S C A
  seat_of id v =
      record { cell = id; first = v.first; seen = v.seen; part = v.part; halvings = v.halvings }

  -- of the one view of a badge
  abbrev pub seat_in : TableId → List (View S C A) → SeatModel S C A
  seat_in id [] = record { cell = id; first = None; seen = []; part = 0; halvings = 0 }
  seat_in id (v ∷ vs) = seat_of id v

  abbrev pub IsOf : CellModel S → SeatModel S C A → Type 0
  IsOf cell seat = (seat.cell ≡ cell.cell) × (seat.first ≡ Some cell.first)

  -- it has seen nothing, and has the whole share
  abbrev pub first_seat : CellModel S → SeatModel S C A
  first_seat c = record { cell = c.cell; first = Some c.first; seen = []; part = 1; halvings = 0 }

  -- the seat has seen more, entries of other seats and then one of its own with this call and this
  -- answer; and all that it has seen is a legal run
  abbrev pub MakesCall : (S → C → A → S → Type 0) → S → SeatModel S C A → C → A → SeatModel S C A
      → Type 0
  MakesCall steps first v call answer w =
      (rest : List (Entry S C A)) × (e : Entry S C A) × (e.call ≡ call) × (e.answer ≡ answer)
      × (w ≡ record v { seen = (v.seen ++ others rest) ++ (e, true) ∷ [] })
      × IsLegalRun steps first (entries w.seen)

  abbrev pub HasWhole : SeatModel S C A → Type 0
  HasWhole v = v.part ≡ 2 ^ v.halvings

  -- what the seat has seen begins a legal run, which ends at the state; where the seat has the
  -- whole share, it has seen all of the run, and made each of its calls
  abbrev pub ClosesAt : (S → C → A → S → Type 0) → S → SeatModel S C A → S → Type 0
  ClosesAt steps first v state =
      (rest : List (Entry S C A)) × IsLegalRun steps first (entries v.seen ++ rest)
      × (state ≡ end_of first (entries v.seen ++ rest))
      × (HasWhole v → (rest ≡ []) × (calls v.seen ≡ entries v.seen))

  -- the seat that was split keeps its calls, and half of its share
  abbrev pub left_seat : SeatModel S C A → SeatModel S C A
  left_seat v = record v { halvings = v.halvings + 1 }

  -- the new one has seen as much, has made no call, and has the other half
  abbrev pub right_seat : SeatModel S C A → SeatModel S C A
  right_seat v = record v { seen = others (entries v.seen); halvings = v.halvings + 1 }

  -- the sum of two shares, at the larger number of halvings
  abbrev pub sum_of : SeatModel S C A → SeatModel S C A → ℕ
  sum_of v w =
      v.part * 2 ^ (max v.halvings w.halvings - v.halvings)
      + w.part * 2 ^ (max v.halvings w.halvings - w.halvings)

  abbrev pub joined_seat : SeatModel S C A → SeatModel S C A → SeatModel S C A
  joined_seat v w =
      record v {
        seen = meld v.seen w.seen;
        part = sum_of v w;
        halvings = max v.halvings w.halvings;
      }
