-- What comes of the calls by which a clone is followed.
use Rattle.std.specs.Prelude.{ℕ, ◌≡◌, ◌⊎◌, ◌++◌, ◌∷◌, [], true, false, List, None, Some, MatchOption, Vec, Result, Ok, Err}
use Rattle.std.specs.declared.alloc.AllocError.{AllocError}
use Rattle.std.specs.declared.alloc.Global.{Global}
use Rattle.std.specs.declared.option.Option.{Option}
use Rattle.clone_follow.specs.Following.{Following, Takes}
use Rattle.clone_follow.specs.declared.follower.FollowRefusal.{FollowRefusal}
use Rattle.clone_follow.specs.declared.follower.FollowTook.{FollowTook}
use Rattle.clone_follow.specs.declared.frame.FollowFrame.{FollowFrame}
use Rattle.clone_model.specs.History.{Row, Rows, rows_in}
use Rattle.clone_plain.specs.Answers.{Text}
use Rattle.clone_events.specs.Events.{Event, IsAmong, IsNumbered, OpensFollower, TakesSo, follower_after, opened_follower, said, sent_after, taken_by}
use Rattle.clone_events.specs.Runs.{IsExchange}
use Rattle.clone_events.specs.World.{Replica}
use Rattle.clone_core.specs.Lines.{State, Events, Happens}
use Rattle.clone_core.specs.System.{donor_of}

abbrev pub Took : Type 0
Took = Result FollowTook FollowRefusal

-- a follower takes a frame, or refuses it; without memory it is as before
abbrev pub TakesFrame : Following → FollowFrame → Result Took AllocError → Following → Type 0
TakesFrame old frame (Ok result) new =
    Takes old frame result new × (new ≡ follower_after frame result old)
TakesFrame old frame (Err e) new = new ≡ old

-- ---- what follows a clone

-- a frame was sent
abbrev pub with_sent : FollowFrame → Replica → Replica
with_sent frame r = record r { sent = sent_after frame r.sent }

-- A frame was sent, of which a COMMIT is kept, and any other given back.
abbrev pub Keeps : Replica → FollowFrame → Result (Option FollowFrame) AllocError → Replica → Type 0
Keeps old frame (Ok None) new =
    (new ≡ with_sent frame old) × (new.sent ≡ old.sent ++ frame ∷ [])
Keeps old frame (Ok (Some other)) new = (other ≡ frame) × (new ≡ with_sent frame old)
Keeps old frame (Err e) new = new ≡ old

-- the follower took a frame so
pub record TookSo (old : Replica) (frame : FollowFrame) (result : Took) (new : Replica)
    : Type 0 where
  pub takes : TakesSo old frame result
  pub is : new ≡ taken_by frame result old

-- An answer was sent, and it came to the follower, or it was lost. Without memory it was sent at
-- most.
abbrev pub Exchanges : Replica → FollowFrame → Result (Option Took) AllocError → Replica → Type 0
Exchanges old frame (Ok (Some result)) new =
    (old.losing ≡ false) × IsAmong (with_sent frame old).sent frame
    × TookSo (with_sent frame old) frame result new
Exchanges old frame (Ok None) new =
    (old.losing ≡ true) × (new ≡ record (with_sent frame old) { losing = false })
Exchanges old frame (Err e) new = (new ≡ old) ⊎ (new ≡ with_sent frame old)

-- The commit of a number came again, or there is none, or no follower. Without memory all is as
-- before.
abbrev pub RepeatsSo : Replica → ℕ → Result (Option Took) AllocError → Replica → Type 0
RepeatsSo old number (Ok (Some result)) new = (frame : FollowFrame)
    × IsNumbered old.sent number frame × TookSo old frame result new
RepeatsSo old number (Ok None) new =
    (new ≡ old) × MatchOption old.follower (Unit {0})
    (λ f. (frame : FollowFrame) → IsNumbered old.sent number frame → ⊥)
RepeatsSo old number (Err e) new = new ≡ old

-- these are the rows of the follower, if there is one
abbrev pub RowsOf : Replica → Option (Vec Row Global) → Type 0
RowsOf r (Some rows) = MatchOption r.follower ⊥ (λ f. rows.items ≡ rows_in f.rows)
RowsOf r None = r.follower ≡ None

-- ---- a world

-- what follows the clone is another
abbrev pub with_replica : Replica → State → State
with_replica r s = record s {
  donor = record s.donor { replica = r };
  clone = record s.clone { replica = r };
}

-- a follower begins with the rows of this list, where these are the clone's
abbrev pub OpensIn : State → List Row → ℕ → State → Type 0
OpensIn s list position t = (rows : Rows) → list ≡ rows_in rows
    → OpensFollower (donor_of s.donor) s.tells s.clone rows position
    → Happens s (opened_follower rows position) t

-- an exchange was made, and answers so
pub record ExchangesIn (s : State) (text : Text) (t : State) : Type 0 where
  pub events : List Event
  pub exchange : IsExchange events
  pub happened : Events s events t
  pub is : text ≡ said events
