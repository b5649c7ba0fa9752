-- RUNS of the donor's side: which calls were asked for which commands, and which frames were sent.
use Rattle.std.specs.Prelude.{ℕ, ◌≡◌, List, [], ◌∷◌, ◌++◌, None, Some}
use Rattle.std.specs.declared.option.Option.{Option}
use Rattle.clone_session.specs.declared.caller.Caller.{Caller}
use Rattle.clone_wire.specs.declared.frame.Frame.{Frame}
use Rattle.clone_wire.specs.declared.frame.Side.TheVariants.{Answer, Command}
use Rattle.clone_stream.specs.Streams.{AreFramesOf, spellings}
use Rattle.clone_calls.specs.declared.call.DonorCall.{DonorCall}
use Rattle.clone_serve.specs.Commands.{command_of}
use Rattle.clone_serve.specs.Following.{after, call_in}
use Rattle.clone_serve.specs.Serving.{doing_after, sends_of}
use Rattle.clone_serve.specs.Telling.{Exchange, frames_of}
use Rattle.clone_serve.specs.declared.after.After.{After}
use Rattle.clone_serve.specs.declared.doing.Doing.{Doing}
use Rattle.clone_serve.specs.declared.doing.Doing.TheVariants.{New, Ready, Serving}

pub data Event : Type 0 where
  -- a command was taken, and its call was answered so
  commands : Frame → Exchange → Event
  -- a call within an EXECUTE was answered so
  serves : Exchange → Event

-- THE COMMANDS that were taken, in their order
abbrev pub commands_of : List Event → List Frame
commands_of [] = []
commands_of (commands command exchange ∷ events) = command ∷ commands_of events
commands_of (serves exchange ∷ events) = commands_of events

abbrev pub exchange_of : Event → Exchange
exchange_of (commands command exchange) = exchange
exchange_of (serves exchange) = exchange

-- THE CALLS that were asked, with their answers, in their order
abbrev pub exchanges_of : List Event → List Exchange
exchanges_of [] = []
exchanges_of (event ∷ events) = exchange_of event ∷ exchanges_of events

-- who is bound, where a command is awaited
abbrev pub awaits_of : Doing → Option (Option Caller)
awaits_of New = Some None
awaits_of (Ready caller) = Some (Some caller)
awaits_of other = None

-- what is asked within an EXECUTE
abbrev pub asks : Doing → Option DonorCall
asks (Serving run work) = Some (call_in run work)
asks other = None

-- a command in turn, with its call
pub record MakesCall (d : Doing) (command : Frame) (exchange : Exchange) (next : After)
    : Type 0 where
  pub bound : Option Caller
  pub awaits : awaits_of d ≡ Some bound
  pub meanwhile : Doing
  pub call : command_of bound command ≡ Some (record { call = exchange.0; doing = meanwhile })
  pub follows : after meanwhile exchange.1 ≡ Some next

-- a call in the course of an EXECUTE
pub record MakesNext (d : Doing) (exchange : Exchange) (next : After) : Type 0 where
  pub call : asks d ≡ Some exchange.0
  pub follows : after d exchange.1 ≡ Some next

-- ONE EVENT
abbrev pub Makes : Doing → Event → After → Type 0
Makes d (commands command exchange) next = MakesCall d command exchange next
Makes d (serves exchange) next = MakesNext d exchange next

-- A RUN, with the frames that were sent
abbrev pub Runs : Doing → List Event → List Frame → Doing → Type 0
Runs d [] sent t = (sent ≡ []) × (t ≡ d)
Runs d (event ∷ events) sent t =
    (next : After) × (rest : List Frame) × Makes d event next
    × (sent ≡ frames_of (sends_of next) ++ rest) × Runs (doing_after next) events rest t

-- WHAT AN END HAS SERVED, by these calls and answers: of all bytes that it received these are left,
-- the rest were the commands of a run, and what it sent are the frames of that run.
pub record Served (d : Doing) (exchanges : List Exchange) (received left sent : List ℕ)
    : Type 0 where
  pub events : List Event
  pub frames : List Frame
  pub run : Runs New events frames d
  pub calls : exchanges ≡ exchanges_of events
  pub commands : AreFramesOf Command (commands_of events)
  pub answers : AreFramesOf Answer frames
  pub taken : received ≡ spellings (commands_of events) ++ left
  pub told : sent ≡ spellings frames
