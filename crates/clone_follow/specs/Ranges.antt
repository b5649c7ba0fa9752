-- The frames that there are: what the types of a frame's fields keep.
use Rattle.std.specs.Prelude.{ℕ, ◌<◌, ◌≤◌, ◌^◌, List, length, None, Some, ⊤}
use Rattle.std.specs.List.{AllByRecursion}
use Rattle.std.specs.declared.option.Option.{Option}
use Rattle.clone_base.specs.declared.limits.TheConstants.{CHANGE_LIMIT, VALUE_LIMIT}
use Rattle.clone_bytes.specs.Fields.{IsBytes}
use Rattle.clone_model.specs.declared.change.Change.{Change}
use Rattle.clone_model.specs.declared.change.Commit.{Commit}
use Rattle.clone_follow.specs.declared.frame.FollowFrame.{FollowFrame}
use Rattle.clone_follow.specs.declared.frame.FollowFrame.TheVariants as frame

-- a number of so many bytes
abbrev pub HasWidth : ℕ → ℕ → Type 0
HasWidth width n = n < 256 ^ width

-- the value of a change, if it has one
abbrev pub IsValue : Option (List ℕ) → Type 0
IsValue None = ⊤
IsValue (Some bytes) = IsBytes bytes × (length bytes ≤ VALUE_LIMIT)

-- a change, with its table, its key and its value
pub record IsChange (change : Change) : Type 0 where
  pub table : HasWidth 4 change.table
  pub key : HasWidth 8 change.key
  pub value : IsValue change.value

-- a commit of at most 160 changes
pub record IsCommit (commit : Commit) : Type 0 where
  pub writer : HasWidth 4 commit.writer
  pub index : HasWidth 8 commit.index
  pub few : length commit.changes ≤ CHANGE_LIMIT
  pub changes : AllByRecursion IsChange commit.changes

-- a frame, by its kind
abbrev pub IsFrame : FollowFrame → Type 0
IsFrame (frame.Want position) = HasWidth 8 position
IsFrame (frame.Commit position commit) = HasWidth 8 position × IsCommit commit
IsFrame (frame.Current position) = HasWidth 8 position
