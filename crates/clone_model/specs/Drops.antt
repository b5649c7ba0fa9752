-- What contracts see of the drops of tables: the drops, the first one first, and for how many more
-- there is room.
use Rattle.std.specs.Prelude.{ℕ}
use Rattle.clone_model.specs.History.{Drops}

pub record DropsState : Type 0 where
  pub list : Drops
  -- so many drops may join it without memory
  pub room : ℕ
