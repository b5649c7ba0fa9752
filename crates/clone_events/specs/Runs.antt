-- Which events a line makes, and runs of lines.
use Rattle.std.specs.Prelude.{ℕ, zero, suc, ◌≡◌, ◌≤◌, ◌+◌, List, [], ◌∷◌, ◌++◌, length, None, Some, Result, Ok, Err}
use Rattle.std.specs.List.{flat_map}
use Rattle.clone_outside.specs.declared.disk.DiskOrder.TheVariants as order
use Rattle.clone_model.specs.History.{Rows}
use Rattle.clone_model.specs.Texts.{ended}
use Rattle.clone_follow.specs.declared.follower.FollowRefusal.{FollowRefusal}
use Rattle.clone_follow.specs.declared.follower.FollowTook.{FollowTook}
use Rattle.clone_follow.specs.declared.frame.FollowFrame.{FollowFrame}
use Rattle.clone_script.specs.declared.lines.Line.{Line}
use Rattle.clone_script.specs.declared.lines.Line.TheVariants.{Create, Drop, Begin, Put, Delete, Get, Undo, Commit, Set, Flush, Half, Land, Clean, Checkpoint, Lsn, Tear, FailDonor, FailRecipient, Start, Task, Serve, Cut, Status, Raw, Feed, Abandon, Advance, Finish, Look, Archive, Follow, Lose, Repeat, Replica, Clone, Rows as ShowRows}
use Rattle.clone_plain.specs.declared.refusal.Cause.{Cause}
use Rattle.clone_plain.specs.Donor.{Donor}
use Rattle.clone_plain.specs.declared.call.EngineAnswer.{EngineAnswer}
use Rattle.clone_plain.specs.declared.call.EngineAnswer.TheVariants as answers
use Rattle.clone_plain.specs.declared.call.EngineCall.{EngineCall}
use Rattle.clone_plain.specs.declared.call.EngineCall.TheVariants as call
use Rattle.clone_events.specs.World.{World, index_in}
use Rattle.clone_events.specs.Events.{to_donor, to_recipient, to_begin, to_go_on, Event, made, cleaned, looked, archived, started, unbegun, occupied, acts, readied, sticks, again, showed, incomplete, hidden, damaged, ordered, opened_follower, sent, taken, lost, set_to_lose, repeated, replicated, unasked, said, Events}

-- one call is made, and answered
abbrev pub MakesOne : EngineCall → List Event → Type 0
MakesOne asked events = (answer : Result EngineAnswer Cause) × (events ≡ made asked answer ∷ [])

-- A transaction begins, makes one change and commits, as far as none of the three calls is refused.
pub data MakesSet (writer index table key : ℕ) (value : List ℕ) (events : List Event) : Type 0 where
  not_begun : (cause : Cause) → events ≡ made (call.Begin writer index) (Err cause) ∷ []
      → MakesSet writer index table key value events
  not_changed : (trx : ℕ) (cause : Cause)
      → events ≡ made (call.Begin writer index) (Ok (answers.Begin trx))
      ∷ made (call.Put trx table key value) (Err cause) ∷ []
      → MakesSet writer index table key value events
  set : (trx : ℕ) (last : Result EngineAnswer Cause)
      → events ≡ made (call.Begin writer index) (Ok (answers.Begin trx))
      ∷ made (call.Put trx table key value) (Ok answers.Put) ∷ made (call.Commit trx) last ∷ []
      → MakesSet writer index table key value events

-- the calls that flush a page, each carried out
abbrev pub flushed : ℕ × ℕ → List Event
flushed page =
    made call.OldestDirty (Ok (answers.OldestDirty (Some page)))
    ∷ made (call.FlushBegin page.0 page.1) (Ok answers.FlushBegin)
    ∷ made (call.FlushHalf page.0 page.1) (Ok answers.FlushHalf)
    ∷ made (call.FlushLand page.0 page.1) (Ok answers.FlushLand) ∷ []

-- The oldest dirty page is flushed until there is none, as far as none of the calls is refused.
pub data MakesClean (events : List Event) : Type 0 where
  all_clean : (pages : List (ℕ × ℕ)) → events ≡ flat_map flushed pages
      ++ made call.OldestDirty (Ok (answers.OldestDirty None)) ∷ cleaned (length pages) ∷ []
      → MakesClean events
  not_flushed : (pages : List (ℕ × ℕ)) (page : ℕ × ℕ) (front rest : List Event)
      (asked : EngineCall) (given : EngineAnswer) (cause : Cause)
      → flushed page ≡ front ++ made asked (Ok given) ∷ rest
      → events ≡ flat_map flushed pages ++ front ++ made asked (Err cause) ∷ []
      → MakesClean events

-- what `start` may make happen
abbrev pub Starts : Event → Type 0
Starts (started alone) = Unit {0}
Starts unbegun = Unit {0}
Starts occupied = Unit {0}
Starts (again to_begin answer) = Unit {0}
Starts event = ⊥

-- one event of a kind happens
abbrev pub MakesEvent : (Event → Type 0) → List Event → Type 0
MakesEvent Kind events = (e : Event) × Kind e × (events ≡ e ∷ [])

-- what this line asks of a connection is done
abbrev pub IsBy : Line → Event → Type 0
IsBy line (acts by changes answer) = by ≡ line
IsBy line event = ⊥

-- one step of each of these tasks, in their order
abbrev pub AreOfTasks : (first count : ℕ) → List Event → Type 0
AreOfTasks first zero events = events ≡ []
AreOfTasks first (suc count) [] = ⊥
AreOfTasks first (suc count) (e ∷ events) =
    IsBy (Task first) e × AreOfTasks (first + 1) count events

-- steps of the donor on connections of ascending numbers
abbrev pub AreOfDonor : ℕ → List Event → Type 0
AreOfDonor least [] = Unit {0}
AreOfDonor least (e ∷ events) =
    (connection : ℕ) × (least ≤ connection) × IsBy (Serve connection) e
    × AreOfDonor (connection + 1) events

-- A ROUND: a step of each task, and then of the donor on connections that are open there
pub record IsRound (tasks : ℕ) (events : List Event) : Type 0 where
  pub by_tasks : List Event
  pub by_donor : List Event
  pub split : events ≡ by_tasks ++ by_donor
  pub of_tasks : AreOfTasks 0 tasks by_tasks
  pub of_donor : AreOfDonor 0 by_donor

-- rounds, one after the other
pub data AreRounds (tasks : ℕ) : List Event → Type 0 where
  no_round : AreRounds tasks []
  next_round : (round rest : List Event) → IsRound tasks round → AreRounds tasks rest
      → AreRounds tasks (round ++ rest)

-- how rounds come to their end: how the clone ended is told, or that nothing can be done
abbrev pub Finishes : Event → Type 0
Finishes sticks = Unit {0}
Finishes (again to_go_on answer) = Unit {0}
Finishes event = ⊥

-- or that a stage is to be acknowledged
abbrev pub Advances : Event → Type 0
Advances (readied stage) = Unit {0}
Advances event = Finishes event

-- rounds are made until an event of a kind
pub record GoesOn (tasks : ℕ) (Kind : Event → Type 0) (events : List Event) : Type 0 where
  pub rounds : List Event
  pub last : Event
  pub are : AreRounds tasks rounds
  pub kind : Kind last
  pub is : events ≡ rounds ++ last ∷ []

-- a clone begins, unless one began before, and is brought to its end
abbrev pub MakesClone : ℕ → List Event → Type 0
MakesClone tasks events =
    (e : Event) × (rest : List Event) × Starts e × GoesOn tasks Finishes rest
    × (events ≡ e ∷ rest)

-- at most so many bytes of the log are archived, or there is no archive
abbrev pub Archives : ℕ → Event → Type 0
Archives bytes (archived limit reached) = limit ≡ bytes
Archives bytes event = ⊥

abbrev pub Looks : Event → Type 0
Looks (looked position) = Unit {0}
Looks event = ⊥

-- rows are shown, or why they aren't
abbrev pub ShowsOrNot : Event → Type 0
ShowsOrNot (showed rows) = Unit {0}
ShowsOrNot incomplete = Unit {0}
ShowsOrNot hidden = Unit {0}
ShowsOrNot (damaged space page why) = Unit {0}
ShowsOrNot event = ⊥

-- ---- a follower

-- AN EXCHANGE: the donor answers the follower, and the answer is lost or comes to it.
pub data IsExchange (events : List Event) : Type 0 where
  loses : (want : ℕ) (frame : FollowFrame) → events ≡ sent want frame ∷ lost want ∷ []
      → IsExchange events
  comes : (want : ℕ) (frame : FollowFrame) (result : Result FollowTook FollowRefusal)
      → events ≡ sent want frame ∷ taken frame result ∷ [] → IsExchange events

-- the clone's rows aren't read, for some reason
abbrev pub HidesRows : Event → Type 0
HidesRows incomplete = Unit {0}
HidesRows hidden = Unit {0}
HidesRows (damaged space page why) = Unit {0}
HidesRows event = ⊥

-- Nothing can be asked, or an exchange is made. A follower that isn't there yet begins with the
-- rows of the clone, as far as they can be read.
pub data MakesFollow (events : List Event) : Type 0 where
  asks_nothing : events ≡ unasked Follow ∷ [] → MakesFollow events
  hides : (e : Event) → HidesRows e → events ≡ e ∷ [] → MakesFollow events
  asks : IsExchange events → MakesFollow events
  first_asks : (rows : Rows) (position : ℕ) (rest : List Event) → IsExchange rest
      → events ≡ showed rows ∷ opened_follower rows position ∷ rest → MakesFollow events

-- a commit of this number comes again, or there is none
abbrev pub Repeats : ℕ → Event → Type 0
Repeats number (repeated which frame result) = which ≡ number
Repeats number (unasked by) = by ≡ Repeat number
Repeats number event = ⊥

-- the follower's rows are shown, or there is none
abbrev pub ShowsReplica : Event → Type 0
ShowsReplica (replicated rows) = Unit {0}
ShowsReplica (unasked by) = by ≡ Replica
ShowsReplica event = ⊥

-- the events of a line, where so many tasks copy the clone and each writer's next transaction has
-- this index
abbrev pub Makes : ℕ → (ℕ → ℕ) → Line → List Event → Type 0
Makes tasks next (Create table buckets) events = MakesOne (call.Create table buckets) events
Makes tasks next (Drop table) events = MakesOne (call.Drop table) events
Makes tasks next (Begin writer) events = MakesOne (call.Begin writer (next writer)) events
Makes tasks next (Put trx table key value) events = MakesOne (call.Put trx table key value) events
Makes tasks next (Delete trx table key) events = MakesOne (call.Delete trx table key) events
Makes tasks next (Get trx table key) events = MakesOne (call.Get trx table key) events
Makes tasks next (Undo trx) events = MakesOne (call.UndoOne trx) events
Makes tasks next (Commit trx) events = MakesOne (call.Commit trx) events
Makes tasks next (Set writer table key value) events =
    MakesSet writer (next writer) table key value events
Makes tasks next (Flush space page) events = MakesOne (call.FlushBegin space page) events
Makes tasks next (Half space page) events = MakesOne (call.FlushHalf space page) events
Makes tasks next (Land space page) events = MakesOne (call.FlushLand space page) events
Makes tasks next Clean events = MakesClean events
Makes tasks next Checkpoint events = MakesOne call.Checkpoint events
Makes tasks next Lsn events = MakesOne call.End events
Makes tasks next (Tear byte) events = events ≡ ordered to_donor (order.Tear byte) ∷ []
Makes tasks next (FailDonor call) events = events ≡ ordered to_donor (order.FailAt call) ∷ []
Makes tasks next (FailRecipient call) events = events ≡ ordered to_recipient (order.FailAt call) ∷ []
Makes tasks next Start events = MakesEvent Starts events
Makes tasks next (Task task) events = MakesEvent (IsBy (Task task)) events
Makes tasks next (Serve connection) events = MakesEvent (IsBy (Serve connection)) events
Makes tasks next (Cut connection near far) events =
    MakesEvent (IsBy (Cut connection near far)) events
Makes tasks next Status events = MakesEvent (IsBy Status) events
Makes tasks next (Raw bytes) events = MakesEvent (IsBy (Raw bytes)) events
Makes tasks next (Feed connection bytes) events = MakesEvent (IsBy (Feed connection bytes)) events
Makes tasks next Abandon events = MakesEvent (IsBy Abandon) events
Makes tasks next Advance events = GoesOn tasks Advances events
Makes tasks next Finish events = GoesOn tasks Finishes events
Makes tasks next Look events = MakesEvent Looks events
Makes tasks next (Archive bytes) events = MakesEvent (Archives bytes) events
Makes tasks next Follow events = MakesFollow events
Makes tasks next Lose events = events ≡ set_to_lose ∷ []
Makes tasks next (Repeat number) events = MakesEvent (Repeats number) events
Makes tasks next Replica events = MakesEvent ShowsReplica events
Makes tasks next Clone events = MakesClone tasks events
Makes tasks next ShowRows events = MakesEvent ShowsOrNot events

-- each answer is ended by a line feed
abbrev pub output : List (List Event) → List ℕ
output events = flat_map (λ es. ended (said es)) events

module _ {D : Type 0} (plain : D → Donor) (Step : D → Event → D → Type 0) where
  -- a line makes its events
  abbrev pub LineStep : World D → Line → List Event → World D → Type 0
  LineStep s line events t =
      Makes s.tasks (index_in s.begun) line events × Events plain Step s events t

  -- lines are carried out one after the other
  abbrev pub Runs : World D → List Line → List (List Event) → World D → Type 0
  Runs s [] [] t = s ≡ t
  Runs s (l ∷ ls) (es ∷ more) t = (u : World D) × LineStep s l es u × Runs u ls more t
  Runs s [] (es ∷ more) t = ⊥
  Runs s (l ∷ ls) [] t = ⊥
