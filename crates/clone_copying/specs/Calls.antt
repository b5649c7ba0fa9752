-- The calls of a task at a recipient that several tasks share.
use Rattle.std.specs.Prelude.{ℕ, ◌≡◌, ◌-◌, Bool, false, List, [], ◌∷◌, ◌++◌, length, take, drop, flat_map, Ok, Some, ⊤}
use Rattle.std.specs.List.{AllByRecursion}
use Rattle.std.specs.declared.option.Option.{Option}
use Rattle.clone_turn.specs.declared.view.Entry.{Entry}
use Rattle.clone_turn.specs.Seats.{SeatModel}
use Rattle.clone_turn.specs.Worked.{Worked}
use Rattle.clone_fetch.specs.Fetching.{is_lost}
use Rattle.clone_fetching.specs.declared.clone_ended.CloneEnded.{CloneEnded}
use Rattle.clone_fetching.specs.declared.recipient.TaskStep.{TaskStep}
use Rattle.clone_fetching.specs.declared.recipient.TaskStepped.{TaskStepped}
use Rattle.clone_fetching.specs.declared.machine.RecipientCall.{RecipientCall}
use Rattle.clone_fetching.specs.declared.machine.RecipientCall.TheVariants as call
use Rattle.clone_fetching.specs.declared.machine.RecipientAnswer.{RecipientAnswer}
use Rattle.clone_fetching.specs.declared.machine.RecipientAnswer.TheVariants as answer
use Rattle.clone_fetching.specs.Recipients.{RecipientModel}
use Rattle.clone_copying.specs.Calling.{IsOne}

-- the bytes that a call took from the front of those that were received
abbrev pub taken_by : RecipientCall → RecipientAnswer → List ℕ
taken_by (call.Step c) (answer.Stepped a) =
    take (length c.received.items - length a.received.items) c.received.items
taken_by (call.Step c) (answer.Ended how) = []
taken_by call.Ended a = []

-- the bytes that it put after those that are to be sent
abbrev pub put_by : RecipientCall → RecipientAnswer → List ℕ
put_by (call.Step c) (answer.Stepped a) = drop (length c.sent.items) a.sent.items
put_by (call.Step c) (answer.Ended how) = []
put_by call.Ended a = []

-- a step of a task whose connection is lost
abbrev pub finds_loss : RecipientCall → Bool
finds_loss (call.Step c) = is_lost c.link
finds_loss call.Ended = false

-- a step is one of the task, with its side of the connection, and with a floor that was looked up
abbrev pub IsCallOf : ℕ → (ℕ → Type 0) → Option ℕ → RecipientCall → Type 0
IsCallOf task looked core (call.Step c) = (c.task ≡ task) × (c.core ≡ core) × looked c.floor
IsCallOf task looked core call.Ended = ⊤

-- the task's side of its connection after a call
abbrev pub core_after : RecipientCall → RecipientAnswer → Option ℕ → Option ℕ
core_after (call.Step c) (answer.Stepped a) core = a.core
core_after (call.Step c) (answer.Ended how) core = core
core_after call.Ended a core = core

-- one call of a run
abbrev pub RecipientEntry : Type 0 → Type 0
RecipientEntry R = Entry (RecipientModel R) RecipientCall RecipientAnswer

abbrev pub RecipientSeat : Type 0 → Type 0
RecipientSeat R = SeatModel (RecipientModel R) RecipientCall RecipientAnswer

-- A TASK THAT FETCHES: its seat at the recipient, its number, its side of its connection, and the
-- position that was looked up last
pub record FetcherModel (R : Type 0) : Type 0 where
  pub seat : RecipientSeat R
  pub task : ℕ
  pub core : Option ℕ
  pub floor : ℕ

module _ {R : Type 0} where
  -- the bytes that calls took, one after the other
  abbrev pub taken : List (RecipientEntry R) → List ℕ
  taken made = flat_map (λ (e : RecipientEntry R). taken_by e.call e.answer) made

  -- the bytes that they put out
  abbrev pub put : List (RecipientEntry R) → List ℕ
  put made = flat_map (λ (e : RecipientEntry R). put_by e.call e.answer) made

  -- ONE STEP: what it took was before what it left, and what it put is after what was there
  pub record IsStep (c : TaskStep) (a : TaskStepped) (made : List (RecipientEntry R))
      : Type 0 where
    pub one : IsOne (call.Step c) (answer.Stepped a) made
    pub received : c.received.items ≡ taken made ++ a.received.items
    pub sent : a.sent.items ≡ c.sent.items ++ put made

  -- THE CALLS OF A TASK: each step has the task's side of its connection as the one before left it
  abbrev pub AreCalls : ℕ → (ℕ → Type 0) → Option ℕ → List (RecipientEntry R) → Option ℕ → Type 0
  AreCalls task looked core [] left = left ≡ core
  AreCalls task looked core (e ∷ es) left =
      IsCallOf task looked core e.call
      × AreCalls task looked (core_after e.call e.answer core) es left

  -- no call found a connection lost
  abbrev pub FindNoLoss : List (RecipientEntry R) → Type 0
  FindNoLoss made = AllByRecursion (λ (e : RecipientEntry R). finds_loss e.call ≡ false) made

  -- the last call asked how the clone ended, and this was told
  abbrev pub IsTold : CloneEnded → List (RecipientEntry R) → Type 0
  IsTold how made =
      (before : List (RecipientEntry R)) × (last : List (RecipientEntry R))
      × (made ≡ before ++ last) × IsOne call.Ended (answer.Ended (Ok (Some how))) last

  -- the same task, whose calls since are as P says
  abbrev pub Works : (List (RecipientEntry R) → Type 0) → FetcherModel R → FetcherModel R → Type 0
  Works P v w = (w.task ≡ v.task) × Worked P v.seat w.seat
