-- BETWEEN TWO STEPS an end awaits a command or serves an EXECUTE, as long as its loop goes on.
use Rattle.std.proofs.Common.{ℕ, ◌≡◌, ◌∙◌, List, [], ◌∷◌, true, false, Option, None, Some, Ok, Err, Result, option_map, inl, inr, sym, ap, subst}
use Rattle.std.specs.Prelude.{⊤}
use Rattle.clone_chunk.specs.declared.cause.CloneCause.{CloneCause}
use Rattle.clone_session.specs.declared.caller.Caller.{Caller}
use Rattle.clone_session.specs.declared.info.StageInfo.{StageInfo}
use Rattle.clone_session.specs.declared.refusal.CloneRefusal.{CloneRefusal}
use Rattle.clone_session.specs.declared.refusal.CloneRefusal.TheVariants.{Because, NoMemory}
use Rattle.clone_calls.specs.Answering.{execute_in, exit_in, stage_in}
use Rattle.clone_calls.specs.declared.answer.DonorAnswer.{DonorAnswer}
use Rattle.clone_serve.specs.Following as following
use Rattle.clone_serve.specs.Following.{left, started, told}
use Rattle.clone_serve.specs.Serving.{Begins, GoesOn, TakesCommand, doing_after, is_over, turn_after}
use Rattle.clone_serve.specs.Stepping.{Goes}
use Rattle.clone_serve.specs.Telling.{Exchange}
use Rattle.clone_serve.specs.declared.after.After.{After}
use Rattle.clone_serve.specs.declared.after.After.TheVariants.{Asks, Ends}
use Rattle.clone_serve.specs.declared.doing.Doing.{Doing}
use Rattle.clone_serve.specs.declared.doing.Doing.TheVariants.{Leaving, New, Over, Ready, Serving, Starting, Telling}
use Rattle.clone_serve.specs.declared.doing.Execution.{Execution}
use Rattle.clone_serve.specs.declared.turn.ServeAnswer.{ServeAnswer}
use Rattle.clone_serve.specs.declared.turn.ServeAnswer.TheVariants as says
use Rattle.clone_serve.specs.declared.turn.ServeTurn.{ServeTurn}
use Rattle.clone_serve.specs.declared.turn.ServeTurn.TheVariants.{Ask, Done}
use Rattle.clone_network.specs.Connections.{Connection, StepsEnd, finds_loss, is_open, reaches_task, sent_behind}
use Rattle.clone_network.specs.declared.donor_step.DonorStep.{DonorStep}
use Rattle.clone_engine.specs.Donor.{Donor}
use Rattle.clone_told.specs.Told.{gives}
use Rattle.clone_paired.specs.Strangers.{IsBetween}
use Rattle.clone_paired.proofs.DonorFree.{not_over}
use Rattle.clone_paired.proofs.LateWork.{IsBound, NextOf, work_by}

-- so an end is, or its loop is over
abbrev Rests : Doing → Type 0
Rests Over = ⊤
Rests other = IsBetween other

abbrev Anyone : Caller → Type 0
Anyone caller = ⊤

bound : IsBound Anyone Rests
bound = record { ready = λ caller of. tt; serving = λ run what of. tt; over = tt }

abbrev NextRests : Option After → Type 0
NextRests next = NextOf Anyone Rests bound next

-- ---- after an answer

refused_rests : (caller : Caller) (why : CloneRefusal) → NextRests (Some (told caller (Err why)))
refused_rests caller (Because why) = tt
refused_rests caller NoMemory = tt

told_rests : (caller : Caller) (got : Option (Result StageInfo CloneRefusal)) → NextRests (option_map (told caller) got)
told_rests caller None = tt
told_rests caller (Some (Ok info)) = tt
told_rests caller (Some (Err why)) = refused_rests caller why

started_rests : (run : Execution) (got : Option (Result ⊤ CloneCause)) → NextRests (option_map (started run) got)
started_rests run None = tt
started_rests run (Some (Ok done)) = tt
started_rests run (Some (Err why)) = tt

left_rests : (got : Option (Result ⊤ CloneCause)) → NextRests (option_map left got)
left_rests None = tt
left_rests (Some (Ok gone)) = tt
left_rests (Some (Err why)) = tt

after_rests : (d : Doing) (given : DonorAnswer) → NextRests (following.after d given)
after_rests (Telling caller) given = told_rests caller (stage_in given)
after_rests (Starting run) given = started_rests run (execute_in given)
after_rests Leaving given = left_rests (exit_in given)
after_rests (Serving run what) given = work_by Anyone Rests bound run what given tt
after_rests other given = tt

-- ---- over a step

-- where nothing more is asked
abbrev Turns : ServeTurn → Doing → Type 0
Turns (Ask asked) d = ⊤
Turns (Done spoke) d = Rests d

next_turns : (next : After) → NextRests (Some next) → Turns (turn_after next) (doing_after next)
next_turns (Asks run what) rests = tt
next_turns (Ends next sends spoke) rests = rests

on_turns : (d mid : Doing) (given : DonorAnswer) (old sent : List ℕ) (turn : ServeTurn) → GoesOn d given old sent mid turn → Turns turn mid
on_turns d mid given old sent turn (inl (next, is, f)) =
    subst (λ (y : ServeTurn). Turns y mid) (sym f.turns)
    (subst (Turns (turn_after next)) (sym f.doing) (next_turns next (subst NextRests is (after_rests d given))))
on_turns d mid given old sent turn (inr fails) = subst (λ (y : ServeTurn). Turns y mid) (sym fails.says) (subst Rests (sym fails.doing) tt)

goes_rests : (exchanges : List Exchange) (d t : Doing) (turn : ServeTurn) (old new : List ℕ) (spoke : ServeAnswer) → Turns turn d → Goes exchanges d turn old new t spoke → Rests t
goes_rests [] d t turn old new spoke turns goes = subst Rests (sym goes.2) (subst (λ (y : ServeTurn). Turns y d) goes.0 turns)
goes_rests (x ∷ xs) d t turn old new spoke turns (is, (mid, sent, next, on, rest)) = goes_rests xs mid t next sent new spoke (on_turns d mid x.1 old sent next on) rest

takes_turns : (awaits : Option Caller) (received left : List ℕ) (d t : Doing) (turn : ServeTurn) → Rests d → TakesCommand awaits received left d t turn → Turns turn t
takes_turns awaits received left d t (Ask asked) rests takes = tt
takes_turns awaits received left d t (Done says.Idle) rests takes = subst Rests (sym takes.3) rests
takes_turns awaits received left d t (Done (says.Garbled kept)) rests takes = subst Rests (sym takes.2) tt
takes_turns awaits received left d t (Done says.NoMemory) rests takes = subst Rests (sym takes.1) tt
takes_turns awaits received left d t (Done other) rests takes = absurd takes

begins_turns : (d t : Doing) (received left : List ℕ) (turn : ServeTurn) → IsBetween d → Begins d received left t turn → Turns turn t
begins_turns New t received left turn between begins = takes_turns None received left New t turn tt begins
begins_turns (Ready caller) t received left turn between begins = takes_turns (Some caller) received left (Ready caller) t turn tt begins
begins_turns (Serving run what) t received left turn between begins = subst (λ (y : ServeTurn). Turns y t) (sym begins.0) tt
begins_turns other t received left turn between begins = absurd between

-- it isn't over
goes_between : (d : Doing) → Rests d → is_over d ≡ false → IsBetween d
goes_between Over rests on = absurd (cc (on))
goes_between New rests on = tt
goes_between (Ready caller) rests on = tt
goes_between (Serving run what) rests on = tt
goes_between other rests on = rests

pub stays_between : (d t : Donor) (at after : Connection) (says : DonorStep) → StepsEnd gives d t at after says → is_open at ≡ true → IsBetween at.doing → is_open after ≡ true → IsBetween after.doing
stays_between d t at after says e live between on = goes_between after.doing (subst Rests (sym doing_is) rests) (not_over after.found_lost (is_over after.doing) on)
  where
    doing_is : after.doing ≡ e.serves.doing
    doing_is = ap (λ (c : Connection). c.doing) (e.is ∙ ap (λ (c : Connection). record c { found_lost = finds_loss at e.says }) e.serves.is)

    rests : Rests e.serves.doing
    rests =
        let s = e.serves.steps in
        goes_rests s.exchanges s.is.begun e.serves.doing s.is.turn (sent_behind (reaches_task at) at.to_task) e.serves.sent e.says (begins_turns at.doing s.is.begun at.to_donor e.serves.left s.is.turn between s.is.begins) s.is.goes
