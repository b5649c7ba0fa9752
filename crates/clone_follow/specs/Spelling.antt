-- The spelling of each frame: its code, the length of its payload, and the fields of the payload
-- one after the other. Numbers are big-endian.
use Rattle.std.specs.Prelude.{ℕ, List, ◌++◌, length, None, Some}
use Rattle.std.specs.List.{flat_map}
use Rattle.std.specs.declared.option.Option.{Option}
use Rattle.byteorder.specs.Endian.{big_bytes}
use Rattle.clone_model.specs.declared.change.Change.{Change}
use Rattle.clone_model.specs.declared.change.Commit.{Commit}
use Rattle.clone_follow.specs.declared.frame.FollowFrame.{FollowFrame}
use Rattle.clone_follow.specs.declared.frame.FollowFrame.TheVariants as frame

-- the code of a frame
abbrev pub code_of : FollowFrame → ℕ
code_of (frame.Want position) = 32
code_of (frame.Commit position commit) = 33
code_of (frame.Current position) = 34

-- how many bytes a value has
abbrev pub size_of : Option (List ℕ) → ℕ
size_of None = 0
size_of (Some bytes) = length bytes

-- kind, length and bytes
abbrev pub value_bytes : Option (List ℕ) → List ℕ
value_bytes None = big_bytes 1 0 ++ big_bytes 1 0
value_bytes (Some bytes) = big_bytes 1 1 ++ big_bytes 1 (length bytes) ++ bytes

-- table, key and value
abbrev pub change_bytes : Change → List ℕ
change_bytes change =
    big_bytes 4 change.table ++ big_bytes 8 change.key ++ value_bytes change.value

-- writer, index, the number of changes, and they
abbrev pub commit_bytes : Commit → List ℕ
commit_bytes commit =
    big_bytes 4 commit.writer ++ big_bytes 8 commit.index
    ++ big_bytes 2 (length commit.changes) ++ flat_map change_bytes commit.changes

-- the position, and what follows it
abbrev pub payload : FollowFrame → List ℕ
payload (frame.Want position) = big_bytes 8 position
payload (frame.Commit position commit) = big_bytes 8 position ++ commit_bytes commit
payload (frame.Current position) = big_bytes 8 position

-- code, length and payload
unfoldable pub spelling : FollowFrame → List ℕ
spelling frame = big_bytes 1 (code_of frame) ++ big_bytes 4 (length (payload frame))
    ++ payload frame
