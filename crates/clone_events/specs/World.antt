-- What a script acts on: a donor, the indexes of its writers, and its clone.
use Rattle.std.specs.Prelude.{ℕ, ◌≡◌, ◌≤◌, Bool, true, false, List, [], length, take, None, unwrap_or}
use Rattle.std.specs.declared.option.Option.{Option}
use Rattle.std.specs.FinMap as finite
use Rattle.std.specs.Ordering.{nat_cmp}
use Rattle.clone_follow.specs.Following.{Following}
use Rattle.clone_follow.specs.declared.frame.FollowFrame.{FollowFrame}
use Rattle.clone_model.specs.History.{Entry, history_of}
use Rattle.clone_plain.specs.Answers.{Text}
use Rattle.clone_plain.specs.Donor.{Donor}

-- the moment of a clone: how many commits and how many drops there were
pub record Stop : Type 0 where
  pub position : ℕ
  pub drops : ℕ

-- how a clone ends
pub data End : Type 0 where
  -- it is complete, after so many commits
  complete : (position : ℕ) → End
  -- a fault of the recipient's disk ends it
  broken : End
  -- so many losses do, one more than the limit
  spent : (losses : ℕ) → End
  -- bytes do that are no frame, or out of turn, of which the first are kept
  garbled : (bytes : List ℕ) → End
  -- the donor refused, in these words
  refused : (words : Text) → End

-- how far a clone has come
pub data Progress : Type 0 where
  -- it wasn't begun
  absent : Progress
  -- it is under way
  copying : Progress
  -- it has ended
  over : End → Progress

-- A follower of the clone, once there is one; the COMMIT frames that the donor ever sent it, in
-- their order; and whether its next answer is to be lost.
pub record Replica : Type 0 where
  pub follower : Option Following
  pub sent : List FollowFrame
  pub losing : Bool

abbrev pub no_replica : Replica
no_replica = record { follower = None; sent = []; losing = false }

-- A clone: how far it has come; the first stop of its session, once it has come to it; what the
-- requester looked up last, and what it had looked up before it first acknowledged the copy of
-- pages; whether anybody but its tasks had a hand in it before it ended: bytes came to a task that
-- the donor didn't send, a stranger acted in its session, or the session was abandoned; whether no
-- other session stood at the donor from its beginning to its end; whether a fault of the
-- recipient's disk came in the way of its rows since it ended; whether its rows were shown; and
-- what follows it.
pub record Clone : Type 0 where
  pub progress : Progress
  pub stop : Option Stop
  pub looked : ℕ
  pub floor : Option ℕ
  pub disturbed : Bool
  pub alone : Bool
  pub doubted : Bool
  pub shown : Bool
  pub replica : Replica

-- none was begun yet
abbrev pub no_clone : Clone
no_clone = record {
  progress = absent;
  stop = None;
  looked = 0;
  floor = None;
  disturbed = false;
  alone = true;
  doubted = false;
  shown = false;
  replica = no_replica;
}

-- it is under way
abbrev pub IsUnderWay : Progress → Type 0
IsUnderWay copying = Unit {0}
IsUnderWay progress = ⊥

-- it has ended, in one way or another
abbrev pub HasEnded : Progress → Type 0
HasEnded absent = ⊥
HasEnded copying = ⊥
HasEnded (over end) = Unit {0}

-- The connections of the clone are honest: nobody but its tasks had a hand in it.
abbrev pub IsHonest : Clone → Type 0
IsHonest clone = clone.disturbed ≡ false

-- A donor of a type D, how many transactions each writer has begun, the clone, whether the disks of
-- donor and recipient tell what they hold, and how many tasks copy the clone.
pub record World (D : Type 0) : Type 0 where
  pub donor : D
  pub begun : finite.FinMap nat_cmp ℕ
  pub clone : Clone
  pub tells : Bool
  pub tasks : ℕ

-- What a clone's rows are is known: the disks tell what they hold, its connections are honest, and
-- no fault came in the way of its rows.
pub record IsSure (tells : Bool) (clone : Clone) : Type 0 where
  pub told : tells ≡ true
  pub honest : IsHonest clone
  pub steady : clone.doubted ≡ false

-- a donor of which nothing was asked, over disks that tell what they hold, or don't
abbrev pub opened : {D : Type 0} → D → ℕ → Bool → World D
opened donor tasks tells = record {
  donor = donor;
  begun = finite.empty;
  clone = no_clone;
  tells = tells;
  tasks = tasks;
}

-- the index of the next transaction of a writer
abbrev pub index_in : finite.FinMap nat_cmp ℕ → ℕ → ℕ
index_in begun writer = unwrap_or (finite.get begun writer) 0

-- the moment that stands
abbrev pub stop_now : Donor → Stop
stop_now d = record { position = length d.binlog; drops = length d.drops }

-- the part of the history before a stop
abbrev pub before_stop : Stop → Donor → List Entry
before_stop stop d = history_of (take stop.position d.binlog) (take stop.drops d.drops)

-- so many commits at most, and so many transactions of each writer
pub record IsWithin {D : Type 0} (plain : D → Donor) (n : ℕ) (s : World D) : Type 0 where
  pub commits : length (plain s.donor).binlog ≤ n
  pub transactions : (writer : ℕ) → index_in s.begun writer ≤ n
