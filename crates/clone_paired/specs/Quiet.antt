-- WHERE NOTHING IS DONE: each task finds nothing to do, and so does the donor's end of each
-- connection.
use Rattle.std.specs.Prelude.{ℕ, ◌≡◌, ◌<◌, ◌⊎◌, true, false, slice_get, Some, ⊤}
use Rattle.clone_outside.specs.DiskCalls.{DiskState}
use Rattle.clone_calls.specs.declared.answer.DonorAnswer.{DonorAnswer}
use Rattle.clone_calls.specs.declared.call.DonorCall.{DonorCall}
use Rattle.clone_serve.specs.declared.turn.ServeAnswer.TheVariants as says
use Rattle.clone_recipient.specs.Receptions.{Reception}
use Rattle.clone_fetch.specs.declared.answer.TaskAnswer.TheVariants.{Idle, Stale}
use Rattle.clone_network.specs.Connections.{Connection, is_open, is_serving}
use Rattle.clone_network.specs.Networks.{Network, StepsDonor, StepsTask}
use Rattle.clone_network.specs.declared.donor_step.DonorStep.{DonorStep}
use Rattle.clone_network.specs.declared.donor_step.DonorStep.TheVariants.{Lost, Served}

-- a task's step, made here, finds nothing to do
abbrev pub TaskRests : ℕ → Reception → DiskState → Network → Type 0
TaskRests task r d n = (floor : ℕ)
    × (StepsTask task floor r r d d n n Idle ⊎ StepsTask task floor r r d d n n Stale)

-- so does the donor's on the connection with this number
abbrev pub EndRests : {A : Type 0} → (A → DonorCall → DonorAnswer → A → Type 0) → A → ℕ → Network
    → Type 0
EndRests gives a number n = StepsDonor gives a a number n n (Served says.Idle)

-- EACH of them does
pub record IsQuiet {A : Type 0} (gives : A → DonorCall → DonorAnswer → A → Type 0) (a : A)
    (r : Reception) (d : DiskState) (n : Network) : Type 0 where
  pub tasks : (task : ℕ) → task < r.table.count → TaskRests task r d n
  pub ends : (number : ℕ) → EndRests gives a number n

-- within an EXECUTE a donor's end never rests, as long as its loop goes on
abbrev pub GoesOn : {A : Type 0} → (A → DonorCall → DonorAnswer → A → Type 0) → A → Network
    → Type 0
GoesOn gives a n = (number : ℕ) (at : Connection) → slice_get n.connections number ≡ Some at
    → is_open at ≡ true → is_serving at.doing ≡ true → EndRests gives a number n → ⊥

-- it doesn't serve one
abbrev pub ServesNone : Network → ℕ → Type 0
ServesNone n number = (at : Connection) → slice_get n.connections number ≡ Some at
    → is_serving at.doing ≡ false

-- an end found nothing to do, or that its connection is lost
abbrev pub FindsNothing : DonorStep → Type 0
FindsNothing (Served says.Idle) = ⊤
FindsNothing Lost = ⊤
FindsNothing other = ⊥
