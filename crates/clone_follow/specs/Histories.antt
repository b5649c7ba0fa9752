-- What becomes of a follower to which frames are delivered, some of them again and in any order,
-- and from which others are lost.
use Rattle.std.specs.Prelude.{◌≡◌, ◌-◌, ◌≤◌, List, [], ◌∷◌, length, take, drop, Result}
use Rattle.std.specs.List.{AllByRecursion}
use Rattle.clone_model.specs.History.{after_commits}
use Rattle.clone_model.specs.declared.change.Commit.{Commit}
use Rattle.clone_follow.specs.declared.frame.FollowFrame.{FollowFrame}
use Rattle.clone_follow.specs.declared.follower.FollowTook.{FollowTook}
use Rattle.clone_follow.specs.declared.follower.FollowRefusal.{FollowRefusal}
use Rattle.clone_follow.specs.Binlog.{IsSent}
use Rattle.clone_follow.specs.Following.{Following, Takes}

-- A frame is delivered, for the first time or again, and taken with an answer; or it is lost.
pub data Event : Type 0 where
  Delivered : FollowFrame → Result FollowTook FollowRefusal → Event
  Lost : FollowFrame → Event

-- the frame of an event
abbrev pub frame_of : Event → FollowFrame
frame_of (Delivered frame result) = frame
frame_of (Lost frame) = frame

-- each frame is one that the donor sent
abbrev pub AreSent : List Commit → List Event → Type 0
AreSent binlog events = AllByRecursion (λ event. IsSent binlog (frame_of event)) events

-- an event
abbrev pub Meets : Following → Event → Following → Type 0
Meets old (Delivered frame result) new = Takes old frame result new
Meets old (Lost frame) new = new ≡ old

-- events, one after the other
abbrev pub Runs : Following → List Event → Following → Type 0
Runs old [] new = new ≡ old
Runs old (event ∷ events) new = (next : Following) × Meets old event next × Runs next events new

-- The commits from the old position on are applied to the old rows in order, each once, up to the
-- new position.
pub record Follows (binlog : List Commit) (old new : Following) : Type 0 where
  pub forward : old.position ≤ new.position
  pub within : new.position ≤ length binlog
  pub rows : new.rows
      ≡ after_commits old.rows (take (new.position - old.position) (drop old.position binlog))
