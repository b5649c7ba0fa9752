-- What calls of a clone make happen.
use Rattle.std.specs.Prelude.{◌≡◌, ◌≢◌, ◌++◌, ◌∷◌, [], Bool, true, false, List, None, Some, Result, Ok, Err, codes}
use Rattle.std.specs.declared.alloc.AllocError.{AllocError}
use Rattle.clone_script.specs.declared.lines.Line.{Line}
use Rattle.clone_plain.specs.Answers.{Text}
use Rattle.clone_events.specs.Events.{Event, Change, acts}
use Rattle.std.specs.Prelude.{unwrap_or}
use Rattle.clone_tasks.specs.declared.end.CloneEnd.TheVariants as ends_as
use Rattle.clone_recipient.specs.Receptions.{Reception}
use Rattle.clone_network.specs.Connections.{Connection, StepsEnd}
use Rattle.clone_network.specs.declared.donor_step.DonorStep.{DonorStep}
use Rattle.clone_network.specs.declared.donor_step.DonorStep.TheVariants as step
use Rattle.clone_serve.specs.declared.turn.ServeAnswer.TheVariants as served
use Rattle.clone_engine.specs.Donor.{Donor}
use Rattle.clone_told.specs.Told.{gives}
use Rattle.clone_events.specs.Events.{AreNow, ShowsChanges, changed_all, ends, to_begin, started, unbegun, occupied, again, end_text, idle}
use Rattle.clone_events.specs.World.{IsHonest, Progress, over}
use Rattle.clone_chunk.specs.Stages.{copy_number}
use Rattle.std.specs.Fmt.{decimal}
use Rattle.clone_core.specs.declared.rounds.Came.{Came}
use Rattle.clone_core.specs.declared.rounds.Came.TheVariants as came
use Rattle.clone_core.specs.declared.rounds.Round.{Round}
use Rattle.clone_core.specs.declared.rounds.Round.TheVariants as round
use Rattle.clone_core.specs.declared.start.Begun.{Begun}
use Rattle.clone_core.specs.declared.start.Begun.TheVariants as begun
use Rattle.clone_core.specs.Acting.{ServesStranger, stranger_changes, with_stranger}
use Rattle.clone_core.specs.Called.{StaysUntold}
use Rattle.clone_core.specs.Ending.{is_copying}
use Rattle.clone_core.specs.Quiet.{NobodyMoves}
use Rattle.clone_core.specs.System.{IsReady, donor_of, has_ended, ready_at}
use Rattle.clone_core.specs.declared.world.TheConstants.{SESSION}
use Rattle.clone_paired.specs.Strangers.{ServesOther}
use Rattle.clone_core.specs.Lines.{State, Events, Happens}

-- what a line asks of a connection or of the session was done, and this is its answer
abbrev pub Acts : Line → State → Text → State → Type 0
Acts line s text t = (changes : List Change) × Happens s (acts line changes text) t

-- memory ran out in it, and the clone may have become another
abbrev pub ActsUntold : Line → State → State → Type 0
ActsUntold line s t = (changes : List Change) × (text : Text)
    × StaysUntold s (acts line changes text ∷ []) t

-- a clone that goes on ends, as by a fault of the recipient's disk
abbrev pub ended_at_last : Reception → Reception
ended_at_last r = record r {
  table = record r.table { ended = Some (unwrap_or r.table.ended ends_as.DiskFault) };
}

-- these events happened
abbrev pub Makes : (List Event → Type 0) → State → State → Type 0
Makes Are s t = (events : List Event) × Are events × Events s events t

-- memory ran out in them, and by then a front of them had happened to the clone
abbrev pub EndsUntold : (List Event → Type 0) → State → State → Type 0
EndsUntold Are s t = (front rest : List Event) × Are (front ++ rest) × StaysUntold s front t

-- ---- strangers

-- these changes were made of the clone, and all else of the world that isn't a donor's or a disk's
-- stays
pub record Changes (changes : List Change) (s t : State) : Type 0 where
  pub begun : t.begun ≡ s.begun
  pub tells : t.tells ≡ s.tells
  pub tasks : t.tasks ≡ s.tasks
  pub plain : donor_of t.donor ≡ donor_of s.donor
  pub now : AreNow (donor_of s.donor) changes
  pub shows : ShowsChanges (donor_of s.donor) s.clone changes
  pub clone : t.clone ≡ changed_all changes s.clone

-- there was no memory for a step
abbrev pub is_starved : DonorStep → Bool
is_starved (step.Served served.NoMemory) = true
is_starved other = false

-- while a clone that has not ended is undisturbed, the connection serves no EXECUTE of its session
abbrev pub ServesNoClone : State → Connection → Type 0
ServesNoClone s at = IsHonest s.clone → has_ended s.donor.course ≡ false
    → ServesOther SESSION at.doing

-- one step of the donor on a stranger's connection
pub record StepsStranger (s : State) (at : Connection) (t : State) (after : Connection)
    (says : DonorStep) : Type 0 where
  pub donor : Donor
  pub steps : StepsEnd gives s.donor.donor donor at after says
  pub is : t.donor ≡ with_stranger donor s.donor
  pub changed : Changes (stranger_changes at says s.donor donor) s t

-- all of them
pub record ServesAll (s : State) (at : Connection) (t : State) (how : DonorStep) : Type 0 where
  pub changes : List Change
  pub serves : ServesStranger at s.donor t.donor changes how
  pub changed : Changes changes s t

-- no change is an end
abbrev pub EndsNone : List Change → Type 0
EndsNone [] = Unit {0}
EndsNone (ends how ∷ changes) = ⊥
EndsNone (change ∷ changes) = EndsNone changes

-- some of them, and then memory ran out
abbrev pub ServesSome : State → State → Type 0
ServesSome s t = (changes : List Change) × EndsNone changes × Changes changes s t

-- ---- a clone begins

abbrev pub started_as : Begun → Event
started_as (begun.Now alone) = started alone
started_as begun.Before = again to_begin idle
started_as begun.Fault = unbegun
started_as begun.Occupied = occupied

-- it does, or it doesn't, or there was no memory, which may have ended it
abbrev pub Begins : State → Result Begun AllocError → State → Type 0
Begins s (Ok h) t = Happens s (started_as h) t
Begins s (Err e) t = EndsUntold (λ events. events ≡ unbegun ∷ []) s t

-- ---- rounds

-- rounds have come to their end so, in a line that stops where a stage is to be acknowledged, or in
-- one that doesn't: nothing can be done where nobody has anything to do
abbrev pub CameTo : Bool → Came → State → Type 0
CameTo stops came.Still t = is_copying t.clone.progress ≡ false
CameTo stops (came.Ready stage) t = (stops ≡ true) × IsReady t.donor.course (copy_number stage)
    × (is_copying t.clone.progress ≡ true)
CameTo stops came.Stuck t =
    (is_copying t.clone.progress ≡ true) × NobodyMoves t.donor t.donor.course
    × (t.tells ≡ true → IsHonest t.clone → ⊥)

-- over honest connections, to a donor whose disk tells what it holds, somebody has something to do
-- while a clone goes on
abbrev pub NeverSticks : State → Type 0
NeverSticks t = t.tells ≡ true → IsHonest t.clone → is_copying t.clone.progress ≡ true
    → NobodyMoves t.donor t.donor.course → ⊥

-- no stage is to be acknowledged at which such a line stops
abbrev pub NoneReady : Bool → State → Type 0
NoneReady stops t = stops ≡ true → ready_at t.donor.course ≡ None

-- so by a round, which was idle where nothing can be done
abbrev pub ComesBy : Round → Bool → Came → State → Type 0
ComesBy r stops came.Still t = CameTo stops came.Still t
ComesBy r stops (came.Ready stage) t = CameTo stops (came.Ready stage) t
ComesBy r stops came.Stuck t =
    (is_copying t.clone.progress ≡ true) × NoneReady stops t × (r ≡ round.Idle)

-- or not by it
pub record GoesOnFrom (r : Round) (stops : Bool) (t : State) : Type 0 where
  pub goes : is_copying t.clone.progress ≡ true
  pub none : NoneReady stops t
  pub busy : r ≢ round.Idle

-- how a clone stands that doesn't go on
abbrev pub still_answer : Progress → Text
still_answer (over how) = end_text how
still_answer other = idle

abbrev pub came_answer : Came → Progress → Text
came_answer came.Still p = still_answer p
came_answer (came.Ready stage) p = codes "ready " ++ decimal (copy_number stage)
came_answer came.Stuck p = codes "stuck"
