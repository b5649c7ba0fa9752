-- A donor's end that finds nothing to do awaits a command, of which less than one is there.
use Rattle.std.proofs.Common.{ℕ, ◌≡◌, ◌≢◌, ◌∙◌, List, [], ◌∷◌, Bool, true, false, Option, None, Some, Result, Ok, Err, option_map, if◌then◌else◌, refl, sym, ap, subst, inl, inr}
use Rattle.std.specs.Prelude.{◌&&◌, ◌||◌, not, ⊤}
use Rattle.clone_chunk.specs.declared.cause.CloneCause.{CloneCause}
use Rattle.clone_session.specs.declared.caller.Caller.{Caller}
use Rattle.clone_session.specs.declared.info.StageInfo.{StageInfo}
use Rattle.clone_session.specs.declared.refusal.CloneRefusal.{CloneRefusal}
use Rattle.clone_session.specs.declared.refusal.CloneRefusal.TheVariants.{Because, NoMemory}
use Rattle.clone_wire.specs.Answers.{BeginsNone}
use Rattle.clone_wire.specs.declared.frame.Frame.{Frame}
use Rattle.clone_wire.specs.declared.frame.Frame.TheVariants as frame
use Rattle.clone_wire.specs.declared.frame.Side.TheVariants.{Command}
use Rattle.clone_calls.specs.Answering.{execute_in, exit_in, stage_in}
use Rattle.clone_calls.specs.declared.answer.DonorAnswer.{DonorAnswer}
use Rattle.clone_calls.specs.declared.call.DonorCall.{DonorCall}
use Rattle.clone_serve.specs.Commands.{command_of, first_command, later_command}
use Rattle.clone_serve.specs.Following.{after, left, started, told}
use Rattle.clone_serve.specs.Serving.{GoesOn, TakesCommand, turn_after}
use Rattle.clone_serve.specs.Stepping.{Goes, IsStep}
use Rattle.clone_serve.specs.Telling.{Exchange}
use Rattle.clone_serve.specs.declared.after.After.{After}
use Rattle.clone_serve.specs.declared.after.After.TheVariants.{Asks, Ends}
use Rattle.clone_serve.specs.declared.commands.Command.{Command as CommandCall}
use Rattle.clone_serve.specs.declared.doing.Doing.{Doing}
use Rattle.clone_serve.specs.declared.doing.Doing.TheVariants.{New, Ready, Telling, Starting, Leaving}
use Rattle.clone_serve.specs.declared.doing.Execution.{Execution}
use Rattle.clone_serve.specs.declared.turn.ServeAnswer.{ServeAnswer}
use Rattle.clone_serve.specs.declared.turn.ServeAnswer.TheVariants as says
use Rattle.clone_serve.specs.declared.turn.ServeTurn.{ServeTurn}
use Rattle.clone_serve.specs.declared.turn.ServeTurn.TheVariants.{Ask, Done}
use Rattle.clone_network.specs.Connections.{Connection, StepsEnd, finds_loss, is_idle, is_serving, reaches_task, said_as, sent_behind, was_refused}
use Rattle.clone_network.specs.declared.donor_step.DonorStep.TheVariants as step

-- ---- after a command is carried out the step isn't idle

-- the next turn is the step's end, and something was done
abbrev Does : After → Type 0
Does (Asks run work) = ⊥
Does (Ends doing sends answer) = answer ≢ says.Idle

abbrev MayDo : Option After → Type 0
MayDo None = Unit {0}
MayDo (Some next) = Does next

-- a command's call is awaited so
abbrev pub IsOfCommand : Doing → Type 0
IsOfCommand (Telling caller) = Unit {0}
IsOfCommand (Starting run) = Unit {0}
IsOfCommand Leaving = Unit {0}
IsOfCommand other = ⊥

abbrev pub MayAwait : Option CommandCall → Type 0
MayAwait None = Unit {0}
MayAwait (Some c) = IsOfCommand c.doing

first_of : (found : Frame) → MayAwait (first_command found)
first_of (frame.Init attempt version size compressed tasks) = tt
first_of (frame.Attach attempt task) = tt
first_of (frame.Reinit attempt stage finished) = tt
first_of (frame.Reinit2 attempt stage taken) = tt
first_of found = tt

later_of : (caller : Caller) (found : Frame) → MayAwait (later_command caller found)
later_of caller (frame.Execute stage) = tt
later_of caller (frame.Ack stage floor) = tt
later_of caller frame.Exit = tt
later_of caller found = tt

pub command_does : (bound : Option Caller) (found : Frame) → MayAwait (command_of bound found)
command_does None found = first_of found
command_does (Some caller) found = later_of caller found

told_does : (caller : Caller) (stage : Option (Result StageInfo CloneRefusal)) → MayDo (option_map (told caller) stage)
told_does caller None = tt
told_does caller (Some (Ok info)) = λ is. cc
told_does caller (Some (Err (Because why))) = λ is. cc
told_does caller (Some (Err NoMemory)) = λ is. cc

started_does : (run : Execution) (done : Option (Result ⊤ CloneCause)) → MayDo (option_map (started run) done)
started_does run None = tt
started_does run (Some (Ok x)) = λ is. cc
started_does run (Some (Err why)) = λ is. cc

left_does : (done : Option (Result ⊤ CloneCause)) → MayDo (option_map left done)
left_does None = tt
left_does (Some (Ok x)) = λ is. cc
left_does (Some (Err why)) = λ is. cc

after_does : (d : Doing) (given : DonorAnswer) → IsOfCommand d → MayDo (after d given)
after_does (Telling caller) given of = told_does caller (stage_in given)
after_does (Starting run) given of = started_does run (execute_in given)
after_does Leaving given of = left_does (exit_in given)
after_does d given of = absurd of

-- the step ends as the turn says
pub done_ends : (exchanges : List Exchange) (d : Doing) (old new : List ℕ) (t : Doing) (answer last : ServeAnswer) → Goes exchanges d (Done answer) old new t last → last ≡ answer
done_ends [] d old new t answer last g = cc (g.0)
done_ends (exchange ∷ more) d old new t answer last g = absurd (cc (g.0))

pub ask_does : (exchanges : List Exchange) (d : Doing) (asked : DonorCall) (old new : List ℕ) (t : Doing) (last : ServeAnswer) → IsOfCommand d → Goes exchanges d (Ask asked) old new t last → last ≢ says.Idle
ask_does [] d asked old new t last of g = absurd (cc (g.0))
ask_does (exchange ∷ more) d asked old new t last of (ask, (mid, sent, turn, goes, rest)) = by goes
  where
    by : GoesOn d exchange.1 old sent mid turn → last ≢ says.Idle
    by (inl (next, is, follows)) = ends next (subst MayDo is (after_does d exchange.1 of)) follows.turns
      where
        ends : (next : After) → Does next → turn ≡ turn_after next → last ≢ says.Idle
        ends (Asks run work) does turns = absurd does
        ends (Ends doing sends answer) does turns = λ idle. does (sym (done_ends more mid sent new t answer last (subst (λ (x : ServeTurn). Goes more mid x sent new t last) turns rest)) ∙ idle)
    by (inr fails) = λ idle. cc (done_ends more mid sent new t says.NoMemory last (subst (λ (x : ServeTurn). Goes more mid x sent new t last) fails.says rest), idle)

-- ---- an end that awaits a command

abbrev pub IsAwaiting : Doing → Type 0
IsAwaiting New = Unit {0}
IsAwaiting (Ready caller) = Unit {0}
IsAwaiting other = ⊥

takes_idle : (bound : Option Caller) (received left old new : List ℕ) (d begun t : Doing) (turn : ServeTurn) (exchanges : List Exchange) → TakesCommand bound received left d begun turn → Goes exchanges begun turn old new t says.Idle → BeginsNone Command received
takes_idle bound received left old new d begun t (Ask asked) exchanges takes goes = absurd (ask_does exchanges begun asked old new t says.Idle (subst MayAwait takes.asks (command_does bound takes.command)) goes refl)
takes_idle bound received left old new d begun t (Done says.Idle) exchanges takes goes = takes.1.0
takes_idle bound received left old new d begun t (Done (says.Garbled kept)) exchanges takes goes = absurd (cc (done_ends exchanges begun old new t (says.Garbled kept) says.Idle goes))
takes_idle bound received left old new d begun t (Done says.NoMemory) exchanges takes goes = absurd (cc (done_ends exchanges begun old new t says.NoMemory says.Idle goes))
takes_idle bound received left old new d begun t (Done other) exchanges takes goes = absurd takes

pub begins_idle : (d : Doing) (received left old new : List ℕ) (t : Doing) (exchanges : List Exchange) → IsAwaiting d → IsStep exchanges d received left old new t says.Idle → BeginsNone Command received
begins_idle New received left old new t exchanges awaits s = takes_idle None received left old new New s.begun t s.turn exchanges s.begins s.goes
begins_idle (Ready caller) received left old new t exchanges awaits s = takes_idle (Some caller) received left old new (Ready caller) s.begun t s.turn exchanges s.begins s.goes
begins_idle d received left old new t exchanges awaits s = absurd awaits

-- it isn't lost, and less than a command is there
pub record Awaits (at : Connection) : Type 0 where
  pub uncut : (at.cut || not at.held) ≡ false
  pub none : BeginsNone Command at.to_donor

awaiting_idle : (d : Doing) → IsAwaiting d → is_serving d ≡ false
awaiting_idle New awaits = refl
awaiting_idle (Ready caller) awaits = refl
awaiting_idle d awaits = absurd awaits

pub end_awaits : {A : Type 0} (gives : A → DonorCall → DonorAnswer → A → Type 0) (a b : A) (at after : Connection) → IsAwaiting at.doing → StepsEnd gives a b at after (step.Served says.Idle) → Awaits at
end_awaits gives a b at after awaits e = by (finds_loss at e.says) refl e.answers
  where
    by : (lost : Bool) → finds_loss at e.says ≡ lost → step.Served says.Idle ≡ said_as lost e.says → Awaits at
    by true is said = absurd (cc (said))
    by false is said = record { uncut = quiet idle; none = begins_idle at.doing at.to_donor e.serves.left (sent_behind (reaches_task at) at.to_task) e.serves.sent e.serves.doing e.serves.steps.exchanges awaits (subst (λ (x : ServeAnswer). IsStep e.serves.steps.exchanges at.doing at.to_donor e.serves.left (sent_behind (reaches_task at) at.to_task) e.serves.sent e.serves.doing x) idle e.serves.steps.is) }
      where
        idle : e.says ≡ says.Idle
        idle = cc (said)

        quiet : e.says ≡ says.Idle → (at.cut || not at.held) ≡ false
        quiet idle = sym (ap (λ (x : ServeAnswer). is_idle x && (at.cut || not at.held)) idle) ∙ sym (ap (λ (b : Bool). if b then at.cut && not (was_refused e.says) else is_idle e.says && (at.cut || not at.held)) (awaiting_idle at.doing awaits)) ∙ is
