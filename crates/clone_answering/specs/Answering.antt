-- What the donor's jobs of a clone do, as it is read: the ends that were lent to be served, and the
-- calls of jobs that serve nothing.
use Rattle.std.specs.Prelude.{ℕ, List, [], map}
use Rattle.clone_machine.specs.Running.{JobEntry}
use Rattle.clone_task_jobs.specs.Serving.{Service}
use Rattle.clone_reading.specs.Lending.{Lent}
use Rattle.clone_reading.specs.Passing.{AreAsked}
use Rattle.clone_reading.specs.Reading.{IsQuiet}

-- the end that was lent for a service
abbrev pub lent_by : {L : Type 0} → Service L → Lent L
lent_by s = record { place = s.place; taken = s.taken; back = s.back }

abbrev pub lent_of : {L : Type 0} → List (Service L) → List (Lent L)
lent_of served = map lent_by served

-- THE CALLS SERVE NOTHING: they neither open a session of this number nor end one, and acknowledge
-- no copy of pages.
abbrev pub ServesNothing : ℕ → List JobEntry → Type 0
ServesNothing number made = IsQuiet number made × AreAsked [] made
