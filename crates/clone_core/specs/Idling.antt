-- What steps leave, if they found nothing to do: the world as it was, in which those who made them
-- have nothing to do.
use Rattle.std.specs.Prelude.{ℕ, ◌≡◌, ◌<◌, Bool, true, false}
use Rattle.std.specs.declared.option.Option.{Option}
use Rattle.clone_core.specs.declared.rounds.Round.{Round}
use Rattle.clone_core.specs.declared.rounds.Round.TheVariants as round
use Rattle.clone_core.specs.Lines.{State}
use Rattle.clone_core.specs.Quiet.{EndRests, IsBefore, NobodyMoves, TaskRests}

-- a step of this task, if it is idle
abbrev pub TaskIdles : Bool → ℕ → State → State → Type 0
TaskIdles true task s t = (t ≡ s) × TaskRests task s.donor s.donor.course
TaskIdles false task s t = Unit {0}

-- one of the donor on this connection
abbrev pub EndIdles : Bool → ℕ → State → State → Type 0
EndIdles true number s t = (t ≡ s) × EndRests number s.donor s.donor.course
EndIdles false number s t = Unit {0}

-- a step of each of so many tasks
abbrev pub TasksIdle : Bool → ℕ → State → State → Type 0
TasksIdle true count s t =
    (t ≡ s) × ((task : ℕ) → task < count → TaskRests task s.donor s.donor.course)
TasksIdle false count s t = Unit {0}

-- one of the donor on each connection before the next one
abbrev pub EndsIdle : Bool → Option ℕ → State → State → Type 0
EndsIdle true next s t =
    (t ≡ s) × ((number : ℕ) → IsBefore next number → EndRests number s.donor s.donor.course)
EndsIdle false next s t = Unit {0}

-- A ROUND
abbrev pub RoundIdles : Round → State → State → Type 0
RoundIdles round.Idle s t = (t ≡ s) × NobodyMoves s.donor s.donor.course
RoundIdles other s t = Unit {0}
