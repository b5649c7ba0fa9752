-- WHAT LIES UNREAD on a connection: whole frames, and on one that was cut a front of one more.
use Rattle.std.specs.Prelude.{ℕ, ◌≡◌, ◌++◌, Bool, false, List, []}
use Rattle.clone_wire.specs.declared.frame.Frame.{Frame}
use Rattle.clone_wire.specs.declared.frame.Side.{Side}
use Rattle.clone_stream.specs.Streams.{AreFramesOf, IsPartOf, spellings}

-- The bytes are these frames. Where the connection was cut, less than a whole one may lie behind
-- them, of those that would have come next.
pub record Holds (sender : Side) (cut : Bool) (frames : List Frame) (bytes : List ℕ)
    : Type 0 where
  pub are : AreFramesOf sender frames
  pub next : List Frame
  pub would : AreFramesOf sender next
  pub rest : List ℕ
  pub part : IsPartOf rest next
  pub whole : cut ≡ false → rest ≡ []
  pub is : bytes ≡ spellings frames ++ rest
