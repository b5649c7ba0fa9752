-- What a seat at a shared donor asked, and what it was answered.
use Rattle.std.specs.Prelude.{ℕ, ◌≡◌, Bool, List, map, Result, None, Some}
use Rattle.std.specs.declared.alloc.AllocError.{AllocError}
use Rattle.std.specs.declared.option.Option.{Option}
use Rattle.clone_turn.specs.Seats.{SeatModel}
use Rattle.clone_turn.specs.Worked.{Worked}
use Rattle.clone_calls.specs.declared.answer.DonorAnswer.TheVariants as given
use Rattle.clone_calls.specs.declared.call.DonorCall.TheVariants as asked
use Rattle.clone_plain.specs.declared.call.EngineAnswer.{EngineAnswer}
use Rattle.clone_plain.specs.declared.call.EngineCall.{EngineCall}
use Rattle.clone_plain.specs.declared.refusal.EngineRefusal.{EngineRefusal}
use Rattle.clone_machine.specs.Running.{JobEntry}
use Rattle.clone_machine.specs.Sharing.{SharedDonor, Steps}
use Rattle.clone_machine.specs.declared.calls.JobAnswer.{JobAnswer}
use Rattle.clone_machine.specs.declared.calls.JobAnswer.TheVariants as answer
use Rattle.clone_machine.specs.declared.calls.JobCall.{JobCall}
use Rattle.clone_machine.specs.declared.calls.JobCall.TheVariants as call

abbrev pub JobSeat : Type 0
JobSeat = SeatModel SharedDonor JobCall JobAnswer

-- a call, and its answer
pub record Said : Type 0 where
  pub call : JobCall
  pub answer : JobAnswer

abbrev pub said_by : JobEntry → Said
said_by e = record { call = e.call; answer = e.answer }

abbrev pub said_in : List JobEntry → List Said
said_in made = map said_by made

-- THE SEAT MADE THESE CALLS meanwhile, in this order, and was answered so.
abbrev pub Says : List Said → JobSeat → JobSeat → Type 0
Says said v w = Worked (λ made. said_in made ≡ said) v w

-- the answer is one that a shared donor gives to the call
abbrev pub IsAnswered : JobCall → JobAnswer → Type 0
IsAnswered asked given = (s t : SharedDonor) × Steps s asked given t

-- WHAT IS IN AN ANSWER, where it is one of its kind: whether the run is to end
abbrev pub halted_in : JobAnswer → Option Bool
halted_in (answer.Halted over) = Some over
halted_in other = None

-- what the engine answered
abbrev pub engine_in : JobAnswer → Option (Result EngineAnswer EngineRefusal)
engine_in (answer.Donor (given.Engine result)) = Some result
engine_in other = None

-- up to where redo is archived
abbrev pub archived_in : JobAnswer → Option (Result (Option ℕ) AllocError)
archived_in (answer.Donor (given.Archive result)) = Some result
archived_in other = None

-- ---- the calls of jobs

-- whether the run is to end
abbrev pub asking : Bool → Said
asking over = record { call = call.Halted; answer = answer.Halted over }

-- that it is to end
abbrev pub halting : Said
halting = record { call = call.Halt; answer = answer.Halt }

-- a call of the engine
abbrev pub engine : EngineCall → Result EngineAnswer EngineRefusal → Said
engine c result = record
    { call = call.Donor (asked.Engine c); answer = answer.Donor (given.Engine result) }

-- that so many bytes of redo are archived at most
abbrev pub archiving : ℕ → Result (Option ℕ) AllocError → Said
archiving limit result = record
    { call = call.Donor (asked.Archive limit); answer = answer.Donor (given.Archive result) }
