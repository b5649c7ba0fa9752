-- The machine that adds one, and how often a seat has called it.
use Rattle.std.specs.Prelude.{ℕ, ◌≡◌, ◌+◌, ◌%◌, ◌^◌, List, length, map}
use Rattle.clone_turn.specs.Runs.{calls}
use Rattle.clone_turn.specs.Seats.{SeatModel}

-- a step adds one, and answers the sum
abbrev pub Adds : ℕ → Unit {0} → ℕ → ℕ → Type 0
Adds s call answer t = (t ≡ (s + 1) % 2 ^ 64) × (answer ≡ t)

-- what the seat's own calls answered
abbrev pub answers_of : SeatModel ℕ (Unit {0}) ℕ → List ℕ
answers_of seat = map (λ e. e.answer) (calls seat.seen)

-- the same seat, which has now made n calls
pub record HasMade (n : ℕ) (v w : SeatModel ℕ (Unit {0}) ℕ) : Type 0 where
  pub cell : w.cell ≡ v.cell
  pub first : w.first ≡ v.first
  pub count : length (calls w.seen) ≡ n
  pub part : w.part ≡ v.part
  pub halvings : w.halvings ≡ v.halvings
