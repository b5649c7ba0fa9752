-- What contracts see of a binlog: its commits, the first one first, and for how many more there is
-- room.
use Rattle.std.specs.Prelude.{ℕ, List}
use Rattle.clone_model.specs.declared.change.Commit.{Commit}

pub record BinlogState : Type 0 where
  pub commits : List Commit
  -- so many commits may join it without memory
  pub room : ℕ
