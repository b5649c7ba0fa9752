-- The calls that a server makes by its seat.
use Rattle.std.specs.Prelude.{◌≡◌, List, [], ◌∷◌, flat_map, ⊤}
use Rattle.std.specs.List.{AllByRecursion}
use Rattle.clone_turn.specs.Seats.{CellModel, SeatModel}
use Rattle.clone_turn.specs.Worked.{Worked}
use Rattle.clone_calls.specs.Answering.{IsAnswerTo}
use Rattle.clone_calls.specs.declared.answer.DonorAnswer.{DonorAnswer}
use Rattle.clone_calls.specs.declared.call.DonorCall.{DonorCall}
use Rattle.clone_serve.specs.Telling.{Exchange}
use Rattle.clone_machine.specs.Running.{JobEntry}
use Rattle.clone_machine.specs.Sharing.{SharedDonor}
use Rattle.clone_machine.specs.declared.calls.JobAnswer.{JobAnswer}
use Rattle.clone_machine.specs.declared.calls.JobAnswer.TheVariants as answer
use Rattle.clone_machine.specs.declared.calls.JobCall.{JobCall}
use Rattle.clone_machine.specs.declared.calls.JobCall.TheVariants as call

-- a seat at the cell of a donor that jobs share
abbrev pub JobSeat : Type 0
JobSeat = SeatModel SharedDonor JobCall JobAnswer

-- a server: the cell of its donor, and its seat there
pub record Server : Type 0 where
  pub cell : CellModel SharedDonor
  pub seat : JobSeat

-- a call of the donor with its answer, if it is one
abbrev pub exchange_by : JobCall → JobAnswer → List Exchange
exchange_by (call.Donor asked) (answer.Donor given) = (asked, given) ∷ []
exchange_by asked given = []

-- THE CALLS OF THE DONOR among calls, in their order
abbrev pub exchanges_in : List JobEntry → List Exchange
exchanges_in made = flat_map (λ (e : JobEntry). exchange_by e.call e.answer) made

-- a server asks whether the run is to end, and makes calls of the donor
abbrev pub IsOfServe : JobCall → Type 0
IsOfServe call.Halted = ⊤
IsOfServe (call.Donor asked) = ⊤
IsOfServe other = ⊥

-- each is answered by one of the answers to it
abbrev pub AreAnswered : List Exchange → Type 0
AreAnswered exchanges = AllByRecursion (λ (x : Exchange). IsAnswerTo x.0 x.1) exchanges

-- THESE ARE THE CALLS of the donor, and no others were made but those by which it asks whether to
-- go on.
pub record AreCalls (exchanges : List Exchange) (made : List JobEntry) : Type 0 where
  pub own : AllByRecursion (λ (e : JobEntry). IsOfServe e.call) made
  pub are : exchanges_in made ≡ exchanges
  pub answered : AreAnswered exchanges

-- ONE CALL, which was answered so
abbrev pub IsOneCall : JobCall → JobAnswer → List JobEntry → Type 0
IsOneCall asked given made =
    (e : JobEntry) × (made ≡ e ∷ []) × (e.call ≡ asked) × (e.answer ≡ given)

-- the seat is at the same cell, and made some calls, which are as P says
abbrev pub Works : (List JobEntry → Type 0) → Server → Server → Type 0
Works P s t = (t.cell ≡ s.cell) × Worked P s.seat t.seat

abbrev pub CallsBy : List Exchange → Server → Server → Type 0
CallsBy exchanges s t = Works (AreCalls exchanges) s t

-- a call of the donor, with its answer
abbrev pub Gives : Server → DonorCall → DonorAnswer → Server → Type 0
Gives s asked given t = CallsBy ((asked, given) ∷ []) s t
