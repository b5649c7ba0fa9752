-- What happens while a script is carried out, one event after the other: calls of the donor, what
-- becomes of its clone, rows that are shown, and orders to disks. The donor, with the disks behind
-- it, is of a type D; `plain` tells the plain donor that it is, and `Step` what an event does to
-- it.
use Rattle.std.specs.Prelude.{ℕ, ◌≡◌, ◌≢◌, ◌≤◌, ◌+◌, ◌-◌, ◌==◌, Bool, true, false, is_some, List, [], ◌∷◌, ◌++◌, length, None, Some, Result, Ok, Err, MatchOption, codes, slice_get, ⊤}
use Rattle.std.specs.Fmt.{decimal}
use Rattle.std.specs.Option.{option_map}
use Rattle.std.specs.declared.option.Option.{Option}
use Rattle.std.specs.FinMap as finite
use Rattle.std.specs.Ordering.{nat_cmp}
use Rattle.clone_outside.specs.declared.disk.DiskOrder.{DiskOrder}
use Rattle.clone_model.specs.History.{Rows, fold, rows_in}
use Rattle.clone_model.specs.Texts.{value_text}
use Rattle.clone_script.specs.declared.lines.Line.{Line}
use Rattle.clone_script.specs.declared.lines.Line.TheVariants as lines
use Rattle.clone_follow.specs.Binlog.{answer}
use Rattle.clone_follow.specs.Following.{Following, Takes, applied}
use Rattle.clone_follow.specs.declared.follower.FollowRefusal.{FollowRefusal}
use Rattle.clone_follow.specs.declared.follower.FollowRefusal.TheVariants as refuses
use Rattle.clone_follow.specs.declared.follower.FollowTook.{FollowTook}
use Rattle.clone_follow.specs.declared.follower.FollowTook.TheVariants as took
use Rattle.clone_follow.specs.declared.frame.FollowFrame.{FollowFrame}
use Rattle.clone_follow.specs.declared.frame.FollowFrame.TheVariants as frames
use Rattle.clone_plain.specs.Donor.{Donor}
use Rattle.clone_plain.specs.Effects.{Gets}
use Rattle.clone_plain.specs.Calls.{PlainStep}
use Rattle.clone_plain.specs.declared.call.EngineAnswer.{EngineAnswer}
use Rattle.clone_plain.specs.declared.call.EngineAnswer.TheVariants as answers
use Rattle.clone_plain.specs.declared.call.EngineCall.{EngineCall}
use Rattle.clone_plain.specs.declared.call.EngineCall.TheVariants as call
use Rattle.clone_plain.specs.declared.refusal.Cause.{Cause}
use Rattle.clone_plain.specs.Answers.{Text, called_text, rows_answer}
use Rattle.clone_events.specs.World.{World, Replica, Stop, End, complete, broken, spent, garbled, refused, Progress, absent, copying, over, Clone, IsHonest, IsUnderWay, HasEnded, IsSure, index_in, stop_now, before_stop}

-- the two sides of a clone
pub data Side : Type 0 where
  to_donor : Side
  to_recipient : Side

-- what a line asks of a clone: that one begins, or that it goes on
pub data Wish : Type 0 where
  to_begin : Wish
  to_go_on : Wish

-- what a step of a task or of the donor, or a stranger's doing, changes of a clone
pub data Change : Type 0 where
  -- its session comes to its first stop
  stops : (at : Stop) → Change
  -- the first acknowledgement of the copy of pages is sent
  acknowledges : Change
  -- bytes come to a task that the donor didn't send, a stranger acts in the session, or the session
  -- is abandoned
  disturbs : Change
  -- a stranger's session stands at the donor
  crowds : Change
  -- the clone ends
  ends : End → Change

pub data Event : Type 0 where
  -- a call of the donor, with its answer
  made : EngineCall → Result EngineAnswer Cause → Event
  -- so many pages landed, and no dirty page waits for its flush
  cleaned : (landed : ℕ) → Event
  -- the requester looks up how many commits there are
  looked : (position : ℕ) → Event
  -- so many bytes of the log at most are archived, up to there, or there is no archive
  archived : (limit : ℕ) (reached : Option ℕ) → Event
  -- a clone begins, at a donor that has no session yet or has one
  started : (alone : Bool) → Event
  -- a fault of the recipient's disk ends it as it begins
  unbegun : Event
  -- none begins, for somebody has written to the recipient's disk
  occupied : Event
  -- What this line asks of a connection or of the session is done: a step of a task or of the
  -- donor, a cut, bytes that come, the status. It changes this of the clone, and answers so.
  acts : (by : Line) (changes : List Change) (answer : Text) → Event
  -- after rounds of steps this stage is to be acknowledged next, or nothing can be done any more
  readied : (stage : ℕ) → Event
  sticks : Event
  -- nothing happens to the clone: how it stands is told again
  again : Wish → (answer : Text) → Event
  -- the clone's rows are read, and shown where a line asks for them
  showed : (rows : Rows) → Event
  -- there is no complete clone whose rows could be shown
  incomplete : Event
  -- a fault of the recipient's disk came in the way of the rows
  hidden : Event
  -- a page of the recipient's disk, or its redo, is against the format
  damaged : (space page : ℕ) (why : Text) → Event
  -- a disk got an order
  ordered : Side → DiskOrder → Event
  -- a follower begins with the clone's rows, at the position at which the clone is complete
  opened_follower : (rows : Rows) (position : ℕ) → Event
  -- the donor answers the follower that has the commits up to this position
  sent : (want : ℕ) → FollowFrame → Event
  -- the answer comes to the follower, which takes it or refuses it
  taken : FollowFrame → Result FollowTook FollowRefusal → Event
  -- the answer is lost, and the follower stays at its position
  lost : (position : ℕ) → Event
  -- the next answer is to be lost
  set_to_lose : Event
  -- of the commits that were ever sent, that of this number comes again, and is taken or refused
  repeated : (number : ℕ) → FollowFrame → Result FollowTook FollowRefusal → Event
  -- the follower's rows are shown
  replicated : (rows : Rows) → Event
  -- there is nothing that this line could ask of a follower
  unasked : (by : Line) → Event

abbrev pub idle : Text
idle = codes "idle"

abbrev pub recipient_fault : Text
recipient_fault = codes "recipient disk fault"

abbrev pub complete_text : ℕ → Text
complete_text position = codes "complete position " ++ decimal position

-- how a clone ended
abbrev pub end_text : End → Text
end_text (complete position) = complete_text position
end_text broken = recipient_fault
end_text (spent losses) = codes "restarts spent " ++ decimal losses
end_text (garbled bytes) = codes "garbled " ++ value_text bytes
end_text (refused cause) = codes "clone " ++ cause

-- what a follower did with a frame, or why it refused it
abbrev pub took_text : Result FollowTook FollowRefusal → Text
took_text (Ok (took.Applied position)) = codes "applied " ++ decimal position
took_text (Ok (took.Ignored position)) = codes "ignored " ++ decimal position
took_text (Ok (took.Current position)) = codes "current " ++ decimal position
took_text (Err (refuses.Ahead have got)) =
    codes "refused F1 " ++ decimal have ++ codes " " ++ decimal got
took_text (Err (refuses.Behind have got)) =
    codes "refused F2 " ++ decimal have ++ codes " " ++ decimal got
took_text (Err refuses.Unexpected) = codes "refused F3"
took_text (Err refuses.NoMemory) = []

-- the answer that an event gives a line, whose last it is
abbrev pub event_text : Event → Text
event_text (made asked answer) = called_text answer
event_text (cleaned landed) = codes "cleaned " ++ decimal landed
event_text (looked position) = codes "position " ++ decimal position
event_text (archived limit (Some lsn)) = codes "archived " ++ decimal lsn
event_text (archived limit None) = idle
event_text (started alone) = codes "started"
event_text unbegun = recipient_fault
event_text occupied = idle
event_text (acts by changes answer) = answer
event_text (readied stage) = codes "ready " ++ decimal stage
event_text sticks = codes "stuck"
event_text (again wish answer) = answer
event_text (showed rows) = rows_answer (rows_in rows)
event_text incomplete = codes "incomplete"
event_text hidden = recipient_fault
event_text (damaged space page why) =
    codes "damaged " ++ decimal space ++ codes " " ++ decimal page ++ codes " " ++ why
event_text (ordered side order) = codes "noted"
event_text (opened_follower rows position) = []
event_text (sent want frame) = []
event_text (taken frame result) = took_text result
event_text (lost position) = codes "lost " ++ decimal position
event_text set_to_lose = codes "noted"
event_text (repeated number frame result) = took_text result
event_text (replicated rows) = rows_answer (rows_in rows)
event_text (unasked by) = idle

-- the answer of a line is that of its last event
abbrev pub said : List Event → Text
said [] = []
said (e ∷ []) = event_text e
said (e ∷ f ∷ more) = said (f ∷ more)

-- a writer has begun one transaction more
abbrev pub counted : Event → finite.FinMap nat_cmp ℕ → finite.FinMap nat_cmp ℕ
counted (made (call.Begin writer index) (Ok (answers.Begin trx))) begun =
    finite.insert begun writer (index_in begun writer + 1)
counted event begun = begun

-- WHAT A CLONE BECOMES by a change
abbrev pub changed_by : Change → Clone → Clone
changed_by (stops at) clone = record clone { stop = Some at }
changed_by acknowledges clone = record clone { floor = Some clone.looked }
changed_by disturbs clone = record clone { disturbed = true }
changed_by crowds clone = record clone { alone = false }
changed_by (ends how) clone = record clone { progress = over how }

-- of a clone that has ended the stop alone matters, which its session may come to later
abbrev pub changed_in : Progress → Change → Clone → Clone
changed_in (over how) (stops at) clone = changed_by (stops at) clone
changed_in (over how) change clone = clone
changed_in progress change clone = changed_by change clone

abbrev pub changed_all : List Change → Clone → Clone
changed_all [] clone = clone
changed_all (change ∷ changes) clone =
    changed_all changes (changed_in clone.progress change clone)

-- ---- WHAT FOLLOWS A CLONE

-- the commits that were ever sent, after this frame
abbrev pub sent_after : FollowFrame → List FollowFrame → List FollowFrame
sent_after (frames.Commit position commit) before = before ++ frames.Commit position commit ∷ []
sent_after other before = before

-- a follower that took a frame so: a commit that it applied is in its rows
abbrev pub follower_after : FollowFrame → Result FollowTook FollowRefusal → Following → Following
follower_after (frames.Commit got commit) (Ok (took.Applied position)) f = applied f commit
follower_after frame result f = f

abbrev pub taken_by : FollowFrame → Result FollowTook FollowRefusal → Replica → Replica
taken_by frame result r =
    record r { follower = option_map (follower_after frame result) r.follower }

-- what follows the clone, after an event
abbrev pub replica_after : Event → Replica → Replica
replica_after (opened_follower rows position) r =
    record r { follower = Some (record { rows = rows; position = position }) }
replica_after (sent want frame) r = record r { sent = sent_after frame r.sent }
replica_after (taken frame result) r = taken_by frame result r
replica_after (lost position) r = record r { losing = false }
replica_after set_to_lose r = record r { losing = true }
replica_after (repeated number frame result) r = taken_by frame result r
replica_after event r = r

-- what a clone becomes by an event
abbrev pub clone_after : Event → Clone → Clone
clone_after (looked position) clone = record clone { looked = position }
clone_after (started alone) clone = record clone { progress = copying; alone = alone }
clone_after unbegun clone = record clone { progress = over broken }
clone_after (acts by changes answer) clone = changed_all changes clone
clone_after (showed rows) clone = record clone { shown = true }
clone_after hidden clone = record clone { doubted = true }
clone_after (opened_follower rows position) clone =
    record clone { replica = replica_after (opened_follower rows position) clone.replica }
clone_after (sent want frame) clone =
    record clone { replica = replica_after (sent want frame) clone.replica }
clone_after (taken frame result) clone =
    record clone { replica = replica_after (taken frame result) clone.replica }
clone_after (lost position) clone =
    record clone { replica = replica_after (lost position) clone.replica }
clone_after set_to_lose clone =
    record clone { replica = replica_after set_to_lose clone.replica }
clone_after (repeated number frame result) clone =
    record clone { replica = replica_after (repeated number frame result) clone.replica }
clone_after event clone = clone

-- how a clone stands where it doesn't go on
abbrev pub StandsStill : Progress → Text → Type 0
StandsStill absent answer = answer ≡ idle
StandsStill copying answer = ⊥
StandsStill (over how) answer = answer ≡ end_text how

abbrev pub IsToldAgain : Wish → Clone → Text → Type 0
IsToldAgain to_begin clone answer = (clone.progress ≢ absent) × (answer ≡ idle)
IsToldAgain to_go_on clone answer = StandsStill clone.progress answer

-- The session comes to its first stop.
pub record ComesToStop (d : Donor) (clone : Clone) (at : Stop) : Type 0 where
  pub first : clone.stop ≡ None
  pub commits : at.position ≤ length d.binlog
  pub drops : at.drops ≤ length d.drops

-- what was looked up ahead of the first acknowledgement is known, and isn't past this position
abbrev pub HasReached : Clone → ℕ → Type 0
HasReached clone position = MatchOption clone.floor ⊥ (λ floor. floor ≤ position)

-- The clone is complete at its stop.
pub record Completes (clone : Clone) (position : ℕ) : Type 0 where
  pub stop : MatchOption clone.stop ⊥ (λ (at : Stop). position ≡ at.position)
  pub floor : HasReached clone position

abbrev pub ShowsEnd : Clone → End → Type 0
ShowsEnd clone (complete position) = IsHonest clone → Completes clone position
ShowsEnd clone how = Unit {0}

-- What a change shows of a clone that hasn't ended. Where its connections are honest, its stop
-- isn't before what was looked up ahead of the first acknowledgement.
abbrev pub ShowsChange : Donor → Clone → Change → Type 0
ShowsChange d clone (stops at) =
    ComesToStop d clone at × (IsHonest clone → HasReached clone at.position)
ShowsChange d clone acknowledges = clone.floor ≡ None
ShowsChange d clone (ends how) = IsUnderWay clone.progress × ShowsEnd clone how
ShowsChange d clone disturbs = Unit {0}
ShowsChange d clone crowds = Unit {0}

-- a clone that has ended doesn't end again
abbrev pub ShowsIn : Progress → Donor → Clone → Change → Type 0
ShowsIn (over how) d clone (ends other) = ⊥
ShowsIn (over how) d clone (stops at) = ComesToStop d clone at
ShowsIn (over how) d clone change = Unit {0}
ShowsIn progress d clone change = ShowsChange d clone change

abbrev pub ShowsChanges : Donor → Clone → List Change → Type 0
ShowsChanges d clone [] = Unit {0}
ShowsChanges d clone (change ∷ changes) = ShowsIn clone.progress d clone change
    × ShowsChanges d (changed_in clone.progress change clone) changes

-- a step that ends the clone answers how
abbrev pub TellsEnd : List Change → Text → Type 0
TellsEnd [] answer = Unit {0}
TellsEnd (ends how ∷ changes) answer = answer ≡ end_text how
TellsEnd (change ∷ changes) answer = TellsEnd changes answer

-- Over honest connections the donor sends nothing that ends the clone as garbled, and it refuses
-- only where another session has stood at it.
abbrev pub IsFairEnd : Clone → End → Type 0
IsFairEnd clone (garbled bytes) = IsHonest clone → ⊥
IsFairEnd clone (refused words) = IsHonest clone → clone.alone ≡ true → ⊥
IsFairEnd clone how = Unit {0}

abbrev pub EndsFairly : Clone → List Change → Type 0
EndsFairly clone [] = Unit {0}
EndsFairly clone (ends how ∷ changes) = IsFairEnd clone how
EndsFairly clone (change ∷ changes) = EndsFairly clone changes

-- the rows of a clone that has ended are those of the history before its stop, where that is known
pub record ShowsRows (d : Donor) (tells : Bool) (clone : Clone) (rows : Rows) : Type 0 where
  pub ended : HasEnded clone.progress
  pub are : IsSure tells clone
      → MatchOption clone.stop ⊥ (λ (at : Stop). rows ≡ fold (before_stop at d))

-- the clone is complete
abbrev pub IsComplete : Progress → Type 0
IsComplete (over (complete position)) = Unit {0}
IsComplete progress = ⊥

-- ---- what an event shows of a follower

-- the follower is there, and takes the frame so
abbrev pub TakesSo : Replica → FollowFrame → Result FollowTook FollowRefusal → Type 0
TakesSo r frame result = MatchOption r.follower ⊥
    (λ f. Takes f frame result (follower_after frame result f))

-- it is there, at this position
abbrev pub IsAt : Replica → ℕ → Type 0
IsAt r position = MatchOption r.follower ⊥ (λ f. position ≡ f.position)

-- a commit is one of those that were sent
abbrev pub IsAmong : List FollowFrame → FollowFrame → Type 0
IsAmong all (frames.Commit position commit) =
    (i : ℕ) × (slice_get all i ≡ Some (frames.Commit position commit))
IsAmong all other = ⊤

-- this is the commit of this number among those that were sent
pub record IsNumbered (all : List FollowFrame) (number : ℕ) (frame : FollowFrame) : Type 0 where
  pub from_one : 1 ≤ number
  pub is : slice_get all (number - 1) ≡ Some frame

-- Nothing can be asked of a follower: no clone is complete, or no follower is there, or it was sent
-- no commit of this number.
abbrev pub AsksNothing : Line → Clone → Type 0
AsksNothing lines.Follow clone = IsComplete clone.progress → ⊥
AsksNothing (lines.Repeat number) clone = MatchOption clone.replica.follower (Unit {0})
    (λ f. (frame : FollowFrame) → IsNumbered clone.replica.sent number frame → ⊥)
AsksNothing lines.Replica clone = clone.replica.follower ≡ None
AsksNothing line clone = ⊥

-- A follower begins with the clone's rows, once the clone is complete.
pub record OpensFollower (d : Donor) (tells : Bool) (clone : Clone) (rows : Rows) (position : ℕ)
    : Type 0 where
  pub first : clone.replica.follower ≡ None
  pub whole : clone.progress ≡ over (complete position)
  pub rows_are : ShowsRows d tells clone rows

-- WHAT AN EVENT SHOWS of a clone, by the history of a donor: that of the moment of the event, and
-- each longer one. Where it is known what the clone's rows are, no damage is found on the
-- recipient's disk, and a complete clone isn't found incomplete. Over honest connections there is
-- always something to do until the clone has ended, and it ends fairly.
abbrev pub Shows : Donor → Bool → Clone → Event → Type 0
Shows d tells clone (looked position) = position ≤ length d.binlog
Shows d tells clone (started alone) = clone.progress ≡ absent
Shows d tells clone unbegun = clone.progress ≡ absent
Shows d tells clone occupied = (clone.progress ≡ absent) × (tells ≡ true → ⊥)
Shows d tells clone (acts by changes answer) =
    ShowsChanges d clone changes × TellsEnd changes answer
    × (tells ≡ true → EndsFairly clone changes)
Shows d tells clone (readied stage) = IsUnderWay clone.progress
Shows d tells clone sticks =
    IsUnderWay clone.progress × (tells ≡ true → IsHonest clone → ⊥)
Shows d tells clone (again wish answer) = IsToldAgain wish clone answer
Shows d tells clone (showed rows) = ShowsRows d tells clone rows
Shows d tells clone incomplete = IsSure tells clone → IsComplete clone.progress → ⊥
Shows d tells clone hidden = HasEnded clone.progress
Shows d tells clone (damaged space page why) =
    HasEnded clone.progress × (IsSure tells clone → ⊥)
Shows d tells clone (opened_follower rows position) = OpensFollower d tells clone rows position
Shows d tells clone (sent want frame) = IsAt clone.replica want
Shows d tells clone (taken frame result) =
    (clone.replica.losing ≡ false) × IsAmong clone.replica.sent frame
    × TakesSo clone.replica frame result
Shows d tells clone (lost position) =
    (clone.replica.losing ≡ true) × IsAt clone.replica position
Shows d tells clone (repeated number frame result) =
    IsNumbered clone.replica.sent number frame × TakesSo clone.replica frame result
Shows d tells clone (replicated rows) =
    MatchOption clone.replica.follower ⊥ (λ f. rows ≡ f.rows)
Shows d tells clone (unasked by) = AsksNothing by clone
Shows d tells clone event = Unit {0}

-- a stop is the moment that stands
abbrev pub AreNow : Donor → List Change → Type 0
AreNow d [] = Unit {0}
AreNow d (stops at ∷ changes) = (at ≡ stop_now d) × AreNow d changes
AreNow d (change ∷ changes) = AreNow d changes

-- what is looked up is how many commits there are, and the answer to a follower is that of the
-- binlog
abbrev pub IsNow : Donor → Event → Type 0
IsNow d (looked position) = position ≡ length d.binlog
IsNow d (acts by changes answer) = AreNow d changes
IsNow d (sent want frame) = frame ≡ answer d.binlog want
IsNow d event = Unit {0}

-- what an event does to the clone of a donor
pub record Clones (d : Donor) (tells : Bool) (old : Clone) (e : Event) (new : Clone)
    : Type 0 where
  pub now : IsNow d e
  pub shows : Shows d tells old e
  pub is : new ≡ clone_after e old

-- the value that a `get` answers is the row's
abbrev pub Sees : Donor → Event → Type 0
Sees d (made (call.Get trx table key) (Ok (answers.Get value))) = Gets d trx table key value
Sees d event = Unit {0}

-- a step of the plain donor, which knows no disk
abbrev pub PlainEvent : Donor → Event → Donor → Type 0
PlainEvent d (made asked answer) after = PlainStep d asked answer after
PlainEvent d event after = after ≡ d

module _ {D : Type 0} (plain : D → Donor) (Step : D → Event → D → Type 0) where
  -- one event happens in a world
  pub record Happens (s : World D) (e : Event) (t : World D) : Type 0 where
    pub step : Step s.donor e t.donor
    pub begun : t.begun ≡ counted e s.begun
    pub clone : Clones (plain s.donor) s.tells s.clone e t.clone
    pub tells : t.tells ≡ s.tells
    pub tasks : t.tasks ≡ s.tasks
    pub sees : s.tells ≡ true → Sees (plain s.donor) e

  -- events happen one after the other
  abbrev pub Events : World D → List Event → World D → Type 0
  Events s [] t = s ≡ t
  Events s (e ∷ es) t = (u : World D) × Happens s e u × Events u es t
