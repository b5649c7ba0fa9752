-- A step of a stranger's connection, by which nobody acts in the session: the donor's run goes on.
use Rattle.std.proofs.Common.{ℕ, ◌≡◌, ◌∙◌, ◌==◌, ◌++◌, ◌∷◌, ◌&&◌, ◌||◌, [], List, Bool, true, false, if◌then◌else◌, Option, None, Some, Ok, slice_get, refl, sym, ap, subst, inl, inr}
use Rattle.std.specs.Bool.{⊤}
use Rattle.std.specs.Prelude.{not}
use Rattle.std.specs.Option.{option_map_or}
use Rattle.std.proofs.lemmas.Bool.{true≢false}
use Rattle.clone_chunk.specs.Stages.{copy_number}
use Rattle.clone_session.specs.declared.caller.Caller.{Caller}
use Rattle.clone_session.specs.declared.info.Stop.{Stop}
use Rattle.clone_wire.specs.Spelling.{code_of, spelling}
use Rattle.clone_wire.specs.declared.frame.Frame.{Frame}
use Rattle.clone_wire.specs.declared.frame.Frame.TheVariants as frame
use Rattle.clone_calls.specs.declared.answer.DonorAnswer.{DonorAnswer}
use Rattle.clone_calls.specs.declared.answer.DonorAnswer.TheVariants as answer
use Rattle.clone_calls.specs.declared.call.DonorCall.TheVariants as call
use Rattle.clone_serve.specs.Commands.{caller_of, command_of, first_command, hello_of, later_command}
use Rattle.clone_serve.specs.Following.{after}
use Rattle.clone_serve.specs.Serving.{GoesOn, turn_after}
use Rattle.clone_serve.specs.Stepping.{Goes}
use Rattle.clone_serve.specs.Telling.{Exchange}
use Rattle.clone_serve.specs.declared.after.After.{After}
use Rattle.clone_serve.specs.declared.after.After.TheVariants.{Asks, Ends}
use Rattle.clone_serve.specs.declared.commands.Command.{Command}
use Rattle.clone_serve.specs.declared.doing.Doing.{Doing}
use Rattle.clone_serve.specs.declared.doing.Doing.TheVariants.{Leaving, Telling}
use Rattle.clone_serve.specs.declared.turn.ServeAnswer.{ServeAnswer}
use Rattle.clone_serve.specs.declared.turn.ServeAnswer.TheVariants as served
use Rattle.clone_serve.specs.declared.turn.ServeTurn.{ServeTurn}
use Rattle.clone_serve.specs.declared.turn.ServeTurn.TheVariants.{Ask, Done}
use Rattle.clone_network.specs.Connections.{Connection, StepsEnd, finds_loss, is_idle, is_serving, reaches_task, said_as, sent_behind, was_refused}
use Rattle.clone_network.specs.declared.donor_step.DonorStep.{DonorStep}
use Rattle.clone_network.specs.declared.donor_step.DonorStep.TheVariants as step
use Rattle.clone_engine.specs.Acts.{Calls}
use Rattle.clone_engine.specs.Answering.{Answered}
use Rattle.clone_engine.specs.Donor.{Donor}
use Rattle.clone_sides.specs.Trace.{Entry}
use Rattle.clone_sides.proofs.KeptLemmas.{number_stands}
use Rattle.clone_sides.proofs.OptionLemmas.{same_some}
use Rattle.clone_told.specs.Told.{gives}
use Rattle.clone_joined.specs.Runs.{HasCome, HasRun, MayAct, stands, stop_by}
use Rattle.clone_joined.specs.Strangers.{acts_in, attach_code, attaches, carries_out}
use Rattle.clone_joined.proofs.AskedLemmas.{AsksAll, MayStep, commanded, inside, step_asks, within_may}
use Rattle.clone_joined.proofs.GivenLemmas.{RunsOn, step_on}
use Rattle.clone_joined.proofs.RunLemmas.{StaysSaid, call_may}
use Rattle.clone_joined.proofs.StandsLemmas.{stands_in}

-- ---- WHAT A STEP SAYS of a command that was carried out, and of one that may have been

abbrev is_told : ServeAnswer → Bool
is_told (served.Answered stage lsn position) = true
is_told served.Execute = true
is_told served.Exit = true
is_told served.NoMemory = true
is_told other = false

abbrev tells : After → Bool
tells (Asks run w) = false
tells (Ends doing sends says) = is_told says

first_code : (f : Frame) (rest : List ℕ) → slice_get (spelling f ++ rest) 0 ≡ Some (code_of f)
unfolding spelling
first_code frame.Exit rest = refl
first_code _ rest = refl

not_idle : (says : ServeAnswer) → is_told says ≡ true → is_idle says ≡ false
not_idle served.Idle is = absurd (true≢false (sym is))
not_idle says is = refl

-- a step that is done is over
done_says : (exchanges : List Exchange) (d t : Doing) (turn : ServeTurn) (old new : List ℕ) (done says : ServeAnswer) → turn ≡ Done done → Goes exchanges d turn old new t says → says ≡ done
done_says [] d t turn old new done says is goes = (let both : Done says ≡ Done done = sym goes.0 ∙ is in cc)
done_says (x ∷ xs) d t turn old new done says is goes = absurd (let both : Ask x.0 ≡ Done done = sym goes.0 ∙ is in cc)

told_next : (next : After) (turn : ServeTurn) (exchanges : List Exchange) (d t : Doing) (old new : List ℕ) (says : ServeAnswer) → tells next ≡ true → turn ≡ turn_after next → Goes exchanges d turn old new t says → is_told says ≡ true
told_next (Asks run w) turn exchanges d t old new says is turns goes = absurd (true≢false (sym is))
told_next (Ends doing sends done) turn exchanges d t old new says is turns goes = ap is_told (done_says exchanges d t turn old new done says turns goes) ∙ is

-- it is told, or there was no memory to tell it
went_told : (doing : Doing) (given : DonorAnswer) (next : After) (mid t : Doing) (turn : ServeTurn) (exchanges : List Exchange) (old sent new : List ℕ) (says : ServeAnswer) → after doing given ≡ Some next → tells next ≡ true → GoesOn doing given old sent mid turn → Goes exchanges mid turn sent new t says → is_told says ≡ true
went_told doing given next mid t turn exchanges old sent new says is told (inl (other, other_is, follows)) goes =
    told_next next turn exchanges mid t sent new says told (follows.turns ∙ ap turn_after (same_some (after doing given) other next other_is is)) goes
went_told doing given next mid t turn exchanges old sent new says is told (inr fails) goes =
    ap is_told (done_says exchanges mid t turn sent new served.NoMemory says fails.says goes)

-- so the donor carried out a command that isn't ATTACH, or may have
module _ (at : Connection) (idle : is_serving at.doing ≡ false) (other : attaches at ≡ false) where
  no_loss : (says : ServeAnswer) → is_told says ≡ true → finds_loss at says ≡ false
  no_loss says is =
      ap (λ (b : Bool). if b then at.cut && not (was_refused says) else is_idle says && (at.cut || not at.held)) idle
      ∙ ap (λ (b : Bool). b && (at.cut || not at.held)) (not_idle says is)

  told_out : (says : ServeAnswer) → is_told says ≡ true → carries_out at (step.Served says) ≡ true
  told_out (served.Answered stage lsn position) is = ap not other
  told_out served.Execute is = refl
  told_out served.Exit is = refl
  told_out served.NoMemory is = ap (λ (b : Bool). not b && not (attaches at)) idle ∙ ap not other
  told_out says is = absurd (true≢false (sym is))

first_none : (a b : Bool) → (a || b) ≡ false → a ≡ false
first_none true b is = absurd (true≢false is)
first_none false b is = refl

-- ---- NO SUCH COMMAND touches the session

module _ (number : ℕ) (floor : Option ℕ) (d : Donor) where
  -- the session doesn't stand where a command is carried out
  abbrev Unless : Frame → Doing → DonorAnswer → Type 0
  Unless command doing given = (code_of command == attach_code) ≡ false → (next : After) → after doing given ≡ Some next → tells next ≡ true → stands number d ≡ false

  abbrev Keeps : Frame → Option Command → Type 0
  Keeps command None = ⊤
  Keeps command (Some found) = (given : DonorAnswer) (t : Donor) → Answered found.call given d t → Unless command found.doing given → MayAct number floor d (Calls found.call given)

  ack_keeps : (caller : Caller) (stage kept : ℕ) (given : DonorAnswer) (t : Donor) → Answered (call.Ack caller stage kept) given d t → ((next : After) → after (Telling caller) given ≡ Some next → tells next ≡ true → stands number d ≡ false)
      → MayAct number floor d (Calls (call.Ack caller stage kept) given)
  ack_keeps caller stage kept (answer.Ack (Ok info)) t does unless =
      let did = does.1.acknowledges in
      λ own two. absurd (true≢false (sym (stands_in number d (number_stands d.cloning caller.session did.0 did.1 ∙ ap (λ (n : ℕ). Some n) own)) ∙ unless _ refl refl))
  ack_keeps caller stage kept (answer.Exit gone) t does unless = absurd does
  ack_keeps caller stage kept (answer.Abandon gone) t does unless = absurd does
  ack_keeps caller stage kept given t does unless = tt

  exit_keeps : (caller : Caller) (given : DonorAnswer) (t : Donor) → Answered (call.Exit caller) given d t → ((next : After) → after Leaving given ≡ Some next → tells next ≡ true → stands number d ≡ false) → MayAct number floor d (Calls (call.Exit caller) given)
  exit_keeps caller (answer.Exit (Ok gone)) t does unless = unless _ refl refl
  exit_keeps caller (answer.Abandon gone) t does unless = absurd does
  exit_keeps caller given t does unless = tt

  first_keeps : (command : Frame) → Keeps command (first_command command)
  first_keeps (frame.Init attempt version size compressed tasks) = λ given t does unless. call_may number floor (call.Init (hello_of attempt version size compressed tasks)) given d t does tt
  first_keeps (frame.Attach attempt task) = λ given t does unless. call_may number floor (call.Attach (caller_of attempt task)) given d t does tt
  first_keeps (frame.Reinit attempt stage finished) = λ given t does unless. call_may number floor (call.Reinit (caller_of attempt 0) (copy_number stage) finished) given d t does tt
  first_keeps (frame.Reinit2 attempt stage taken) = λ given t does unless. call_may number floor (call.ReinitBlocks (caller_of attempt 0) (copy_number stage) taken) given d t does tt
  first_keeps other = tt

  later_keeps : (caller : Caller) (command : Frame) → Keeps command (later_command caller command)
  later_keeps caller (frame.Execute stage) = λ given t does unless. call_may number floor (call.Execute caller (copy_number stage)) given d t does tt
  later_keeps caller (frame.Ack stage kept) = λ given t does unless. ack_keeps caller (copy_number stage) kept given t does (unless refl)
  later_keeps caller frame.Exit = λ given t does unless. exit_keeps caller given t does (unless refl)
  later_keeps caller other = tt

  command_keeps : (bound : Option Caller) (command : Frame) → Keeps command (command_of bound command)
  command_keeps None command = first_keeps command
  command_keeps (Some caller) command = later_keeps caller command

  module _ (t : Donor) (at after_at : Connection) (says : DonorStep) (e : StepsEnd gives d t at after_at says) (none : acts_in number d t at says ≡ false) where
    -- what is told of a command that isn't ATTACH leaves the session aside
    aside : (command : Frame) → is_serving at.doing ≡ false → at.to_donor ≡ spelling command ++ e.serves.left → is_told e.says ≡ true → (code_of command == attach_code) ≡ false → stands number d ≡ false
    aside command idle taken told other =
        let front : slice_get at.to_donor 0 ≡ Some (code_of command) = ap (λ (bytes : List ℕ). slice_get bytes 0) taken ∙ first_code command e.serves.left in
        let apart : attaches at ≡ false = ap (λ (o : Option ℕ). option_map_or (λ (code : ℕ). code == attach_code) o false) front ∙ other in
        let said : says ≡ step.Served e.says = e.answers ∙ ap (λ (b : Bool). said_as b e.says) (no_loss at idle apart e.says told) in
        let out : carries_out at says ≡ true = ap (carries_out at) said ∙ told_out at idle apart e.says told in
        first_none (stands number d) (stands number t) (sym (ap (λ (b : Bool). b && (stands number d || stands number t)) out) ∙ none)

    by_calls : (exchanges : List Exchange) (begun last : Doing) (turn : ServeTurn) (old new : List ℕ) → Goes exchanges begun turn old new last e.says → AsksAll at.doing at.to_donor e.serves.left begun exchanges → MayStep number floor d exchanges
    by_calls [] begun last turn old new goes asks = tt
    by_calls (x ∷ xs) begun last turn old new (is, (mid, sent, next, on, rest)) (commanded bound idle takes, more) =
        let unless : Unless takes.command begun x.1 = λ other following following_is told.
        aside takes.command idle takes.taken (went_told begun x.1 following mid last next xs old sent new e.says following_is told on rest) other in
        ((λ v does. subst (Keeps takes.command) takes.asks (command_keeps bound takes.command) x.1 v does unless), more)
    by_calls (x ∷ xs) begun last turn old new goes (inside is same, more) =
        ((λ v does. call_may number floor x.0 x.1 d v does (within_may floor x.0 is)), more)

    pub stranger_may : MayStep number floor d e.serves.steps.exchanges
    stranger_may =
        let s = e.serves.steps in
        let old : List ℕ = sent_behind (reaches_task at) at.to_task in
        by_calls s.exchanges s.is.begun e.serves.doing s.is.turn old e.serves.sent s.is.goes
        (step_asks s.exchanges at.doing e.serves.doing at.to_donor e.serves.left old e.serves.sent e.says s.is)

-- ---- THE RUN GOES ON by it.

pub record StrangerStep (number : ℕ) (floor : Option ℕ) (stop : Option Stop) (trace : List Entry) (t : Donor) : Type 0 where
  pub on : List Entry
  pub run : HasRun number floor stop on t
  pub still : StaysSaid number trace on

pub stranger_step : (number : ℕ) (floor : Option ℕ) (stop : Option Stop) (trace : List Entry) (d t : Donor) (at after_at : Connection) (says : DonorStep) → HasRun number floor stop trace d → StepsEnd gives d t at after_at says → acts_in number d t at says ≡ false
    → StrangerStep number floor (stop_by number stop t) trace t
stranger_step number floor stop trace d t at after_at says r e none =
    let s = e.serves.steps in
    let more : RunsOn number floor (stop_by number stop t) trace s.exchanges t = step_on number floor stop trace d s.exchanges t r (stranger_may number floor d t at after_at says e none) s.answers in
    record { on = more.on; run = more.run; still = more.still }

pub strangers_come : (number : ℕ) (floor : Option ℕ) (stop : Option Stop) (d t : Donor) (at after_at : Connection) (says : DonorStep) → HasCome number floor stop d → StepsEnd gives d t at after_at says → acts_in number d t at says ≡ false
    → HasCome number floor (stop_by number stop t) t
strangers_come number floor stop d t at after_at says (trace, run) e none =
    let more : StrangerStep number floor (stop_by number stop t) trace t = stranger_step number floor stop trace d t at after_at says run e none in
    (more.on, more.run)
