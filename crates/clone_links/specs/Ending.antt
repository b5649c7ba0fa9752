-- Why the serving of a connection ends.
use Rattle.std.specs.Prelude.{ℕ, ◌≡◌, List, [], ◌∷◌, ◌++◌, true, Ok, Err, None, Some, ⊤}
use Rattle.std.specs.declared.option.Option.{Option}
use Rattle.clone_outside.specs.Causes.{Rose}
use Rattle.clone_chunk.specs.declared.cause.CloneCause.{CloneCause}
use Rattle.clone_session.specs.declared.caller.Caller.{Caller}
use Rattle.clone_wire.specs.declared.frame.Frame.TheVariants as frame
use Rattle.clone_plain.specs.declared.refusal.Cause.TheVariants as engine
use Rattle.clone_plain.specs.declared.refusal.EngineRefusal.TheVariants.{Because}
use Rattle.clone_calls.specs.declared.answer.DonorAnswer.TheVariants as answer
use Rattle.clone_calls.specs.declared.block.BlockRefusal.TheVariants.{Engine}
use Rattle.clone_calls.specs.declared.call.DonorCall.TheVariants as call
use Rattle.clone_serve.specs.Runs.{awaits_of}
use Rattle.clone_serve.specs.Serving.{IsGarbled}
use Rattle.clone_serve.specs.Telling.{Exchange, frame_for}
use Rattle.clone_serve.specs.declared.doing.Doing.{Doing}
use Rattle.clone_serve.specs.declared.turn.ServeAnswer.{ServeAnswer}
use Rattle.clone_serve.specs.declared.turn.ServeAnswer.TheVariants as served
use Rattle.clone_machine.specs.Running.{JobEntry}
use Rattle.clone_machine.specs.declared.calls.JobAnswer.TheVariants as job_answer
use Rattle.clone_machine.specs.declared.calls.JobCall.TheVariants as job
use Rattle.clone_links.specs.declared.end.ServeEnd.{ServeEnd}
use Rattle.clone_links.specs.declared.end.ServeEnd.TheVariants as end

-- the last one is as P says
abbrev pub EndsWith : {X : Type 0} → (X → Type 0) → List X → Type 0
EndsWith {X = X} P xs = (before : List X) × (x : X) × (xs ≡ before ++ x ∷ []) × P x

-- the requester's EXIT was carried out
abbrev pub IsExit : Exchange → Type 0
IsExit x = (caller : Caller) × (x.0 ≡ call.Exit caller) × (x.1 ≡ answer.Exit (Ok tt))

-- the donor refused for this reason
abbrev pub IsRefusal : CloneCause → Exchange → Type 0
IsRefusal why x = frame_for x.0 x.1 ≡ Some (frame.Refused why)

-- the donor's disk failed
abbrev pub IsDiskFault : Exchange → Type 0
IsDiskFault x = x.1 ≡ answer.ReadBlock (Err (Engine (Because engine.DiskFault)))

-- the run is to end
abbrev pub IsHalt : JobEntry → Type 0
IsHalt e = (e.call ≡ job.Halted) × (e.answer ≡ job_answer.Halted true)

-- what is left of the bytes can't become a command in turn, and so much of it is kept
abbrev pub IsNoCommand : Doing → List ℕ → List ℕ → Type 0
IsNoCommand d left kept =
    (bound : Option Caller) × (awaits_of d ≡ Some bound) × IsGarbled bound left kept

-- THE CAUSE among the calls: how the last one was answered
abbrev pub IsCause : ServeEnd → List Exchange → List JobEntry → Type 0
IsCause end.Exit exchanges made = EndsWith IsExit exchanges
IsCause (end.Refused why) exchanges made = EndsWith (IsRefusal why) exchanges
IsCause end.DiskFault exchanges made = EndsWith IsDiskFault exchanges
IsCause end.Halted exchanges made = EndsWith IsHalt made
IsCause other exchanges made = ⊤

-- THE CAUSE in the bytes
abbrev pub IsCauseIn : ServeEnd → Doing → List ℕ → Type 0
IsCauseIn (end.Garbled kept) d left = IsNoCommand d left kept
IsCauseIn other d left = ⊤

-- a loss comes only where the connection's count of faults rose
abbrev pub RoseIfLost : ServeEnd → (before now : ℕ) → Type 0
RoseIfLost end.Lost before now = Rose before now
RoseIfLost other before now = ⊤

-- the connection is lost, or there was no memory
abbrev pub IsOfLink : ServeEnd → Type 0
IsOfLink end.Lost = ⊤
IsOfLink end.NoMemory = ⊤
IsOfLink other = ⊥

-- the end that a step brings, if it brings one
abbrev pub end_after : ServeAnswer → Option ServeEnd
end_after served.Exit = Some end.Exit
end_after (served.Refused why) = Some (end.Refused why)
end_after (served.Garbled kept) = Some (end.Garbled kept)
end_after served.DiskFault = Some end.DiskFault
end_after served.NoMemory = Some end.NoMemory
end_after other = None
