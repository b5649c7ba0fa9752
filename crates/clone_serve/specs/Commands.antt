-- The commands of a connection: the call that each makes, and which are in turn.
use Rattle.std.specs.Prelude.{ℕ, ◌==◌, ◌&&◌, ◌||◌, not, nat_le, Bool, false, List, slice_get}
use Rattle.std.specs.Prelude.{None, Some}
use Rattle.std.specs.declared.option.Option.{Option}
use Rattle.std.specs.Option.{option_map_or}
use Rattle.clone_chunk.specs.Stages.{copy_number}
use Rattle.clone_session.specs.declared.caller.Caller.{Caller}
use Rattle.clone_session.specs.declared.caller.Hello.{Hello}
use Rattle.clone_wire.specs.declared.frame.Attempt.{Attempt}
use Rattle.clone_wire.specs.declared.frame.Frame.{Frame}
use Rattle.clone_wire.specs.declared.frame.Frame.TheVariants as frame
use Rattle.clone_calls.specs.declared.call.DonorCall.{DonorCall}
use Rattle.clone_calls.specs.declared.call.DonorCall.TheVariants as call
use Rattle.clone_serve.specs.declared.commands.Command.{Command}
use Rattle.clone_serve.specs.declared.doing.Doing.TheVariants.{Leaving, Starting, Telling}

abbrev pub caller_of : Attempt → ℕ → Caller
caller_of attempt task = record {
  session = attempt.session;
  incarnation = attempt.incarnation;
  task = task;
}

abbrev pub hello_of : Attempt → ℕ → ℕ → Bool → ℕ → Hello
hello_of attempt version size compressed tasks = record {
  version = version;
  page_size = size;
  compress = compressed;
  tasks = tasks;
  session = attempt.session;
  incarnation = attempt.incarnation;
}

-- a command of this caller, whose call is answered by a stage
abbrev pub telling : DonorCall → Caller → Command
telling asked caller = record { call = asked; doing = Telling caller }

-- THE FIRST COMMAND of a connection opens a session, joins one or comes back to one.
abbrev pub first_command : Frame → Option Command
first_command (frame.Init attempt version size compressed tasks) =
    Some (telling (call.Init (hello_of attempt version size compressed tasks))
    (caller_of attempt 0))
first_command (frame.Attach attempt task) =
    Some (telling (call.Attach (caller_of attempt task)) (caller_of attempt task))
first_command (frame.Reinit attempt stage finished) =
    Some (telling (call.Reinit (caller_of attempt 0) (copy_number stage) finished)
    (caller_of attempt 0))
first_command (frame.Reinit2 attempt stage taken) =
    Some (telling (call.ReinitBlocks (caller_of attempt 0) (copy_number stage) taken)
    (caller_of attempt 0))
first_command other = None

-- A LATER COMMAND is of the caller that the first one bound.
abbrev pub later_command : Caller → Frame → Option Command
later_command caller (frame.Execute stage) = Some (record {
  call = call.Execute caller (copy_number stage);
  doing = Starting (record { caller = caller; stage = stage });
})
later_command caller (frame.Ack stage floor) =
    Some (telling (call.Ack caller (copy_number stage) floor) caller)
later_command caller frame.Exit = Some (record { call = call.Exit caller; doing = Leaving })
later_command caller other = None

-- WHAT A COMMAND ASKS FOR, by who is bound. It is nothing where the command comes out of turn.
abbrev pub command_of : Option Caller → Frame → Option Command
command_of None command = first_command command
command_of (Some caller) command = later_command caller command

-- the code is that of a command in turn
abbrev pub is_in_turn : Option Caller → ℕ → Bool
is_in_turn None code = (nat_le 1 code && nat_le code 3) || (code == 7)
is_in_turn (Some caller) code = nat_le 4 code && nat_le code 6

-- the bytes begin with a code out of turn
abbrev pub is_out_of_turn : Option Caller → List ℕ → Bool
is_out_of_turn bound bytes =
    option_map_or (λ code. not (is_in_turn bound code)) (slice_get bytes 0) false
