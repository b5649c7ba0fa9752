-- What a donor says of its binlog: a list of commits, in which a commit's position is its number,
-- from 1.
use Rattle.std.specs.Prelude.{ℕ, ◌≡◌, ◌+◌, ◌-◌, ◌≤◌, ◌==◌, if◌then◌else◌, List, ◌++◌, length}
use Rattle.std.specs.Prelude.{None, Some, slice_get}
use Rattle.std.specs.declared.option.Option.{Option}
use Rattle.clone_base.specs.declared.limits.TheConstants.{CHANGE_LIMIT}
use Rattle.clone_model.specs.declared.change.Commit.{Commit}
use Rattle.clone_follow.specs.declared.frame.FollowFrame.{FollowFrame}
use Rattle.clone_follow.specs.declared.frame.FollowFrame.TheVariants as frame

-- the commit at a position. None is at 0, nor above the length
abbrev pub commit_at : List Commit → ℕ → Option Commit
commit_at binlog position = if position == 0 then None else slice_get binlog (position - 1)

-- The answer to a WANT of a position: the next commit where there is one, else the binlog's length.
abbrev pub answered : List Commit → ℕ → Option Commit → FollowFrame
answered binlog want None = frame.Current (length binlog)
answered binlog want (Some commit) = frame.Commit (want + 1) commit

abbrev pub answer : List Commit → ℕ → FollowFrame
answer binlog want = answered binlog want (commit_at binlog (want + 1))

-- The donor sent the frame at some time: it is an answer over a front of the binlog.
pub record IsSent (binlog : List Commit) (sent : FollowFrame) : Type 0 where
  pub front : List Commit
  pub later : List Commit
  pub want : ℕ
  pub grown : binlog ≡ front ++ later
  pub is : sent ≡ answer front want

-- the commit has as many changes as a transaction may have
abbrev pub IsShort : Commit → Type 0
IsShort commit = length commit.changes ≤ CHANGE_LIMIT
