-- WHERE NOBODY HAS ANYTHING TO DO for a clone, or one of them hasn't.
use Rattle.std.specs.Prelude.{ℕ, ◌≡◌, ◌≤◌, ◌<◌, false, IfSome}
use Rattle.std.specs.declared.option.Option.{Option}
use Rattle.clone_network.specs.Networks.{is_open_at}
use Rattle.clone_paired.specs.Quiet as paired
use Rattle.clone_told.specs.Told.{gives}
use Rattle.clone_core.specs.declared.world.Course.{Course}
use Rattle.clone_core.specs.declared.world.Course.TheVariants as course
use Rattle.clone_core.specs.System.{System}

-- NOBODY HAS ANYTHING TO DO: each task's step finds nothing, and so does the donor's on each
-- connection.
abbrev pub NobodyMoves : System → Course → Type 0
NobodyMoves s (course.Begun c) = paired.IsQuiet gives s.donor c.reception s.recipient c.network
NobodyMoves s other = Unit {0}

-- one task's step finds nothing
abbrev pub TaskRests : ℕ → System → Course → Type 0
TaskRests task s (course.Begun c) = paired.TaskRests task c.reception s.recipient c.network
TaskRests task s other = Unit {0}

-- so does the donor's on one connection
abbrev pub EndRests : ℕ → System → Course → Type 0
EndRests number s (course.Begun c) = paired.EndRests gives s.donor number c.network
EndRests number s other = Unit {0}

-- this number comes before the next one, if there is a next one
abbrev pub IsBefore : Option ℕ → ℕ → Type 0
IsBefore next number = IfSome next (λ n. number < n)

-- no end is open from this number on and before the next one
abbrev pub AreClosed : ℕ → Option ℕ → Course → Type 0
AreClosed from next (course.Begun c) = (number : ℕ) → from ≤ number → IsBefore next number
    → is_open_at c.network.connections number ≡ false
AreClosed from next other = Unit {0}

-- how many tasks a clone has
abbrev pub tasks_of : Course → ℕ
tasks_of (course.Begun c) = c.reception.table.count
tasks_of other = 0
