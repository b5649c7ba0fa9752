-- WHAT IS ON ITS WAY over a connection between a donor and a task of a recipient.
use Rattle.std.specs.Prelude.{ℕ, ◌≡◌, Bool, true, not, List, Some, ⊤}
use Rattle.std.specs.List.{AllByRecursion}
use Rattle.std.specs.declared.option.Option.{Option}
use Rattle.clone_chunk.specs.declared.copy_stage.CopyStage.TheVariants.{PageCopy}
use Rattle.clone_wire.specs.declared.frame.Frame.{Frame}
use Rattle.clone_wire.specs.declared.frame.Frame.TheVariants as frame
use Rattle.clone_wire.specs.declared.frame.Side.{Side}
use Rattle.clone_wire.specs.declared.frame.Side.TheVariants.{Answer, Command}
use Rattle.clone_stream.specs.Streams.{AreFramesOf, AreFrontOf, spellings}
use Rattle.clone_network.specs.Connections.{Connection, reaches_task}
use Rattle.clone_sides.specs.Trace.{Entry}
use Rattle.clone_told.specs.Told.{IsOf, IsTold}

-- Bytes that aren't read are a front of the spellings of such frames. They are all of it where more
-- may still be sent.
pub record Carries (sender : Side) (Is : Frame → Type 0) (goes_on : Bool) (bytes : List ℕ)
    : Type 0 where
  pub frames : List Frame
  pub are : AreFramesOf sender frames
  pub each : AllByRecursion Is frames
  pub front : AreFrontOf bytes frames
  pub all : goes_on ≡ true → bytes ≡ spellings frames

-- what a frame says was answered in the donor's run, where the frame is one of this session
abbrev pub WasSaid : ℕ → List Entry → Frame → Type 0
WasSaid number trace sent = IsOf number sent → IsTold number trace sent

-- a command of a task while the clone goes on: it isn't EXIT, and an acknowledgement of the copy of
-- pages carries this floor
abbrev pub MayAsk : Option ℕ → Frame → Type 0
MayAsk floor frame.Exit = ⊥
MayAsk floor (frame.Ack PageCopy given) = floor ≡ Some given
MayAsk floor other = ⊤

-- A CONNECTION carries answers that the donor gave, and such commands.
pub record IsCarried (number : ℕ) (floor : Option ℕ) (trace : List Entry) (at : Connection)
    : Type 0 where
  pub to_task : Carries Answer (WasSaid number trace) (reaches_task at) at.to_task
  pub to_donor : Carries Command (MayAsk floor) (not at.cut) at.to_donor
