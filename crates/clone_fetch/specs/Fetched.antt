-- WHAT A REQUESTER HAS FETCHED over one connection.
use Rattle.std.specs.Prelude.{ℕ, ◌≡◌, ◌+◌, ◌≤◌, List, ◌++◌, length}
use Rattle.clone_wire.specs.declared.frame.Frame.{Frame}
use Rattle.clone_wire.specs.declared.frame.Side.TheVariants.{Answer, Command}
use Rattle.clone_stream.specs.Streams.{AreFramesOf, spellings}

-- These answers were taken from the bytes that were received, in their order, with these bytes
-- left, and these commands were put out.
pub record Fetched (taken put : List Frame) (received left sent : List ℕ) : Type 0 where
  pub answers : AreFramesOf Answer taken
  pub commands : AreFramesOf Command put
  pub took : received ≡ spellings taken ++ left
  pub told : sent ≡ spellings put

-- A frame more was taken, or one more was put out, or neither.
pub record GoesOn (taken put : List Frame) (received left sent : List ℕ) : Type 0 where
  pub next_taken : List Frame
  pub next_put : List Frame
  pub one : length next_taken + length next_put ≤ 1
  pub fetched : Fetched (taken ++ next_taken) (put ++ next_put) received left sent
