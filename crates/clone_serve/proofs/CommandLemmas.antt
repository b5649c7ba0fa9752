-- A command in turn has a call, and each answer to it is awaited.
use Rattle.std.proofs.Common.{◌≡◌, ℕ, Bool, true, false, List, ◌++◌, Some, None, Ok, Err, Result, refl, subst, sym, ap, ◌∙◌}
use Rattle.std.specs.Prelude.{IsSome, not, slice_get}
use Rattle.std.specs.declared.option.Option.{Option}
use Rattle.std.specs.Option.{option_map_or}
use Rattle.std.specs.Result.{OnOk}
use Rattle.std.proofs.lemmas.Option.{same_Some}
use Rattle.clone_chunk.specs.Stages.{copy_number}
use Rattle.clone_session.specs.declared.caller.Caller.{Caller}
use Rattle.clone_stream.specs.Streams.{IsFrameOf}
use Rattle.clone_wire.specs.Spelling.{code_of, side_of, spelling}
use Rattle.clone_wire.specs.declared.frame.Frame.{Frame}
use Rattle.clone_wire.specs.declared.frame.Frame.TheVariants.{Init, Attach, Reinit, Reinit2, Execute, Ack, Exit}
use Rattle.clone_wire.specs.declared.frame.Side.TheVariants as side
use Rattle.clone_calls.specs.Answering.{answers}
use Rattle.clone_calls.specs.declared.answer.DonorAnswer.{DonorAnswer}
use Rattle.clone_calls.specs.declared.answer.DonorAnswer.TheVariants as answer
use Rattle.clone_calls.specs.declared.call.DonorCall.{DonorCall}
use Rattle.clone_calls.specs.declared.call.DonorCall.TheVariants as call
use Rattle.clone_serve.specs.Commands.{command_of, is_in_turn, is_out_of_turn, telling}
use Rattle.clone_serve.specs.Serving.{Awaits, IsOfDonor, WasSent}
use Rattle.clone_serve.specs.declared.commands.Command.{Command}
use Rattle.clone_serve.specs.declared.doing.Doing.TheVariants.{Leaving, Starting, Telling}
use Rattle.clone_serve.specs.declared.doing.Execution.{Execution}
use Rattle.clone_serve.proofs.AnswerLemmas.{Fits, leaving_right, starting_right, telling_right}

first_code : (f : Frame) (rest : List ℕ) → slice_get (spelling f ++ rest) 0 ≡ Some (code_of f)
unfolding spelling
first_code Exit rest = refl
first_code _ rest = refl

in_turn : (bound : Option Caller) (f : Frame) → side_of f ≡ side.Command → not (is_in_turn bound (code_of f)) ≡ false → IsSome (command_of bound f)
in_turn None (Init attempt version size compressed tasks) s turn = refl
in_turn None (Attach attempt task) s turn = refl
in_turn None (Reinit attempt stage finished) s turn = refl
in_turn None (Reinit2 attempt stage taken) s turn = refl
in_turn (Some caller) (Execute stage) s turn = refl
in_turn (Some caller) (Ack stage floor) s turn = refl
in_turn (Some caller) Exit s turn = refl
in_turn _ _ s turn = absurd (cc)

-- a command that isn't out of turn has a call
pub has_call : (bound : Option Caller) (f : Frame) (bytes rest : List ℕ) → side_of f ≡ side.Command → bytes ≡ spelling f ++ rest → is_out_of_turn bound bytes ≡ false → IsSome (command_of bound f)
has_call bound f bytes rest s taken turn =
    let first : slice_get bytes 0 ≡ Some (code_of f) = ap (λ b. slice_get b 0) taken ∙ first_code f rest in
    in_turn bound f s (sym (ap (λ o. option_map_or (λ code. not (is_in_turn bound code)) o false) first) ∙ turn)

-- the call is answered by a stage
abbrev tells : DonorCall → Bool
tells (call.Init hello) = true
tells (call.Attach caller) = true
tells (call.Reinit caller stage finished) = true
tells (call.ReinitBlocks caller stage taken) = true
tells (call.Ack caller stage floor) = true
tells _ = false

stage_awaited : (caller : Caller) (asked : DonorCall) (given : DonorAnswer) → tells asked ≡ true → answers asked given ≡ true → Awaits (Telling caller) given
stage_awaited caller (call.Init hello) (answer.Init r) t e = refl
stage_awaited caller (call.Attach c) (answer.Attach r) t e = refl
stage_awaited caller (call.Reinit c stage finished) (answer.Reinit r) t e = refl
stage_awaited caller (call.ReinitBlocks c stage taken) (answer.ReinitBlocks r) t e = refl
stage_awaited caller (call.Ack c stage floor) (answer.Ack r) t e = refl
stage_awaited caller _ _ t e = absurd (cc)

start_awaited : (run : Execution) (caller : Caller) (stage : ℕ) (given : DonorAnswer) → answers (call.Execute caller stage) given ≡ true → Awaits (Starting run) given
start_awaited run caller stage (answer.Execute r) e = refl
start_awaited run caller stage _ e = absurd (cc)

exit_awaited : (caller : Caller) (given : DonorAnswer) → answers (call.Exit caller) given ≡ true → Awaits Leaving given
exit_awaited caller (answer.Exit r) e = refl
exit_awaited caller _ e = absurd (cc)

abbrev FitsCommand : Command → Type 0
FitsCommand command = Fits command.doing command.call

is : (x command : Command) → Some x ≡ Some command → FitsCommand x → FitsCommand command
is x command e fits = subst FitsCommand (same_Some x command e) fits

telling_fits : (asked : DonorCall) (caller : Caller) → tells asked ≡ true → FitsCommand (telling asked caller)
telling_fits asked caller t = record { awaits = λ given e. stage_awaited caller asked given t e; right = telling_right caller asked }

-- what is asked for a command fits what is done meanwhile
pub command_fits : (bound : Option Caller) (f : Frame) (command : Command) → command_of bound f ≡ Some command → Fits command.doing command.call
command_fits None (Init attempt version size compressed tasks) command e = is _ command e (telling_fits _ _ refl)
command_fits None (Attach attempt task) command e = is _ command e (telling_fits _ _ refl)
command_fits None (Reinit attempt stage finished) command e = is _ command e (telling_fits _ _ refl)
command_fits None (Reinit2 attempt stage taken) command e = is _ command e (telling_fits _ _ refl)
command_fits (Some caller) (Ack stage floor) command e = is _ command e (telling_fits _ _ refl)
command_fits (Some caller) (Execute stage) command e = is _ command e (record { awaits = start_awaited _ caller (copy_number stage); right = starting_right _ (call.Execute caller (copy_number stage)) })
command_fits (Some caller) Exit command e = is _ command e (record { awaits = exit_awaited caller; right = leaving_right (call.Exit caller) })
command_fits _ _ command e = absurd (cc)

-- ---- frames that are sent

-- a frame of the donor's that was put to be sent
pub was_sent : {E : Type 0} (r : Result (Unit {0}) E) (sends : Option Frame) (f : Frame) → sends ≡ Some f → IsOfDonor sends → OnOk r (IsFrameOf (side_of f) f) → OnOk r (WasSent sends)
was_sent (Ok x) sends f e of is = subst WasSent (sym e) (record { is = is.is; sender = subst IsOfDonor e of })
was_sent (Err why) sends f e of is = tt
