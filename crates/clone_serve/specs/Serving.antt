-- THE TWO CALLS of the donor's side: a step begins, and goes on with the answer to what it asked.
use Rattle.std.specs.Prelude.{ℕ, ◌≡◌, ◌⊎◌, ◌++◌, List, Bool, true, false, None, Some, IsSome, ⊤}
use Rattle.std.specs.declared.option.Option.{Option}
use Rattle.clone_session.specs.declared.caller.Caller.{Caller}
use Rattle.clone_wire.specs.Answers.{IsLost}
use Rattle.clone_wire.specs.Spelling.{side_of, spelling}
use Rattle.clone_wire.specs.declared.frame.Frame.{Frame}
use Rattle.clone_wire.specs.declared.frame.Side.TheVariants as side
use Rattle.clone_stream.specs.Streams.{IsFrameOf}
use Rattle.clone_stream.specs.Taking.{IsKept, IsPartial}
use Rattle.clone_calls.specs.declared.answer.DonorAnswer.{DonorAnswer}
use Rattle.clone_calls.specs.declared.call.DonorCall.{DonorCall}
use Rattle.clone_serve.specs.Commands.{command_of, is_out_of_turn}
use Rattle.clone_serve.specs.Following.{after, call_in}
use Rattle.clone_serve.specs.declared.after.After.{After}
use Rattle.clone_serve.specs.declared.after.After.TheVariants.{Asks, Ends}
use Rattle.clone_serve.specs.declared.commands.Command.{Command}
use Rattle.clone_serve.specs.declared.doing.Doing.{Doing}
use Rattle.clone_serve.specs.declared.doing.Doing.TheVariants.{New, Over, Ready, Serving}
use Rattle.clone_serve.specs.declared.turn.ServeAnswer.TheVariants.{Garbled, Idle, NoMemory}
use Rattle.clone_serve.specs.declared.turn.ServeTurn.{ServeTurn}
use Rattle.clone_serve.specs.declared.turn.ServeTurn.TheVariants.{Ask, Done}

-- it is over, and does nothing more
abbrev pub is_over : Doing → Bool
is_over Over = true
is_over other = false

-- A COMMAND in turn is taken from the front of the bytes, and its call is asked.
pub record Commands (bound : Option Caller) (received left : List ℕ) (t : Doing)
    (asked : DonorCall) : Type 0 where
  pub command : Frame
  pub is : IsFrameOf side.Command command
  pub taken : received ≡ spelling command ++ left
  pub asks : command_of bound command ≡ Some (record { call = asked; doing = t })

-- the call of a command is asked, if it has one
abbrev pub AsksFor : Option Command → Doing → ServeTurn → Type 0
AsksFor found t (Ask asked) = found ≡ Some (record { call = asked; doing = t })
AsksFor found t (Done says) = ⊥

-- the bytes can't become a command in turn, and so much of them is kept
abbrev pub IsGarbled : Option Caller → List ℕ → List ℕ → Type 0
IsGarbled bound received kept =
    ((is_out_of_turn bound received ≡ true) ⊎ IsLost side.Command received)
    × IsKept side.Command received kept

-- it is over, and so much of the bytes is kept, unless there is no memory for that
abbrev pub IsOver : List ℕ → Doing → ServeTurn → Type 0
IsOver received t (Done (Garbled kept)) = IsKept side.Command received kept × (t ≡ Over)
IsOver received t (Done NoMemory) = t ≡ Over
IsOver received t other = ⊥

-- WHERE A COMMAND IS AWAITED, one is taken or none is there yet, or the bytes are garbled.
abbrev pub TakesCommand : Option Caller → List ℕ → List ℕ → Doing → Doing → ServeTurn → Type 0
TakesCommand bound received left d t (Ask asked) = Commands bound received left t asked
TakesCommand bound received left d t (Done Idle) =
    (is_out_of_turn bound received ≡ false) × IsPartial side.Command received
    × (left ≡ received) × (t ≡ d)
TakesCommand bound received left d t (Done (Garbled kept)) =
    IsGarbled bound received kept × (left ≡ received) × (t ≡ Over)
TakesCommand bound received left d t (Done NoMemory) = (left ≡ received) × (t ≡ Over)
TakesCommand bound received left d t (Done other) = ⊥

-- A STEP BEGINS: with a command where one is awaited, and with the next call within an EXECUTE.
-- Where it is over, and where an answer is awaited, nothing is done.
abbrev pub Begins : Doing → List ℕ → List ℕ → Doing → ServeTurn → Type 0
Begins New received left t turn = TakesCommand None received left New t turn
Begins (Ready caller) received left t turn =
    TakesCommand (Some caller) received left (Ready caller) t turn
Begins (Serving run work) received left t turn =
    (turn ≡ Ask (call_in run work)) × (left ≡ received) × (t ≡ Serving run work)
Begins d received left t turn = (turn ≡ Done Idle) × (left ≡ received) × (t ≡ d)

-- THE ANSWER IS ONE to what was asked.
abbrev pub Awaits : Doing → DonorAnswer → Type 0
Awaits d given = IsSome (after d given)

abbrev pub doing_after : After → Doing
doing_after (Asks run work) = Serving run work
doing_after (Ends doing sends says) = doing

abbrev pub sends_of : After → Option Frame
sends_of (Asks run work) = None
sends_of (Ends doing sends says) = sends

abbrev pub turn_after : After → ServeTurn
turn_after (Asks run work) = Ask (call_in run work)
turn_after (Ends doing sends says) = Done says

-- the bytes with a frame after them
abbrev pub with_frame : Option Frame → List ℕ → List ℕ
with_frame None bytes = bytes
with_frame (Some sent) bytes = bytes ++ spelling sent

-- the donor sends such a frame
abbrev pub IsOfDonor : Option Frame → Type 0
IsOfDonor None = ⊤
IsOfDonor (Some sent) = side_of sent ≡ side.Answer

-- it was sent, so it is in its ranges
abbrev pub WasSent : Option Frame → Type 0
WasSent None = ⊤
WasSent (Some sent) = IsFrameOf side.Answer sent

-- what follows the answer is done
pub record Follows (next : After) (sent_old sent_new : List ℕ) (t : Doing) (turn : ServeTurn)
    : Type 0 where
  pub doing : t ≡ doing_after next
  pub sends : sent_new ≡ with_frame (sends_of next) sent_old
  pub is : WasSent (sends_of next)
  pub turns : turn ≡ turn_after next

-- there is no memory for its frame, and it is over
pub record Fails (sent_old sent_new : List ℕ) (t : Doing) (turn : ServeTurn) : Type 0 where
  pub doing : t ≡ Over
  pub sends : sent_new ≡ sent_old
  pub says : turn ≡ Done NoMemory

-- A STEP GOES ON.
abbrev pub GoesOn : Doing → DonorAnswer → List ℕ → List ℕ → Doing → ServeTurn → Type 0
GoesOn d given sent_old sent_new t turn =
    ((next : After) × (after d given ≡ Some next) × Follows next sent_old sent_new t turn)
    ⊎ Fails sent_old sent_new t turn
