-- Calls of a machine by a seat.
use Rattle.std.specs.Prelude.{◌≡◌, List, [], ◌∷◌, Some}
use Rattle.clone_turn.specs.declared.view.Entry.{Entry}
use Rattle.clone_turn.specs.Runs.{end_of, entries}
use Rattle.clone_turn.specs.Seats.{MakesCall, SeatModel}

module _ {S C A : Type 0} where
  -- the call may be made in the state that the seat saw last
  abbrev pub FitsNow : (C → S → Type 0) → C → SeatModel S C A → Type 0
  FitsNow fits call v =
      (first : S) → v.first ≡ Some first → fits call (end_of first (entries v.seen))

  -- THE SEAT MAKES A CALL of its cell
  abbrev pub Calls : (S → C → A → S → Type 0) → SeatModel S C A → C → A → SeatModel S C A → Type 0
  Calls steps v call answer w =
      (first : S) × (v.first ≡ Some first) × MakesCall steps first v call answer w

  -- the one call that was made, and its answer
  abbrev pub IsOne : C → A → List (Entry S C A) → Type 0
  IsOne call answer made =
      (e : Entry S C A) × (made ≡ e ∷ []) × (e.call ≡ call) × (e.answer ≡ answer)

  -- a step of the machine, from some state
  abbrev pub IsSomeStep : (S → C → A → S → Type 0) → C → A → Type 0
  IsSomeStep steps call answer = (s : S) × (t : S) × steps s call answer t

  -- a call, which is a step of the machine
  abbrev pub IsAnswered : (S → C → A → S → Type 0) → C → A → List (Entry S C A) → Type 0
  IsAnswered steps call answer made = IsOne call answer made × IsSomeStep steps call answer
