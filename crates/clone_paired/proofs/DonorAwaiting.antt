-- WHERE A DONOR'S END AWAITS A COMMAND: what comes of a step.
use Rattle.std.proofs.Common.{ℕ, ◌≡◌, ◌∙◌, ◌⊎◌, List, [], ◌∷◌, ◌++◌, Bool, true, false, if◌then◌else◌, Option, None, Some, Ok, Err, Result, option_map, refl, sym, ap, subst, inl, inr}
use Rattle.std.specs.Bool.{⊤}
use Rattle.std.specs.Prelude.{◌&&◌, ◌||◌, not}
use Rattle.clone_chunk.specs.declared.cause.CloneCause.{CloneCause}
use Rattle.clone_session.specs.declared.caller.Caller.{Caller}
use Rattle.clone_session.specs.declared.info.StageInfo.{StageInfo}
use Rattle.clone_session.specs.declared.refusal.CloneRefusal.{CloneRefusal}
use Rattle.clone_session.specs.declared.refusal.CloneRefusal.TheVariants.{Because, NoMemory}
use Rattle.clone_wire.specs.Answers.{BeginsNone}
use Rattle.clone_wire.specs.Spelling.{spelling}
use Rattle.clone_wire.specs.declared.frame.Frame.{Frame}
use Rattle.clone_wire.specs.declared.frame.Frame.TheVariants as frame
use Rattle.clone_wire.specs.declared.frame.Side.TheVariants.{Command as ofTask}
use Rattle.clone_stream.specs.Streams.{IsFrameOf}
use Rattle.clone_calls.specs.Answering.{execute_in, exit_in, stage_in}
use Rattle.clone_calls.specs.declared.answer.DonorAnswer.{DonorAnswer}
use Rattle.clone_calls.specs.declared.call.DonorCall.{DonorCall}
use Rattle.clone_serve.specs.Commands.{command_of}
use Rattle.clone_serve.specs.Following as following
use Rattle.clone_serve.specs.Following.{left, started, told}
use Rattle.clone_serve.specs.Serving.{Begins, Commands, GoesOn, IsGarbled, TakesCommand, WasSent, doing_after, is_over, sends_of, turn_after, with_frame}
use Rattle.clone_serve.specs.Stepping.{GivesAll, Goes, IsStep}
use Rattle.clone_serve.specs.Telling.{Exchange}
use Rattle.clone_serve.specs.declared.after.After.{After}
use Rattle.clone_serve.specs.declared.after.After.TheVariants.{Asks, Ends}
use Rattle.clone_serve.specs.declared.commands.Command.{Command as Asked}
use Rattle.clone_serve.specs.declared.doing.Doing.{Doing}
use Rattle.clone_serve.specs.declared.doing.Doing.TheVariants.{Leaving, New, Over, Ready, Serving, Starting, Telling}
use Rattle.clone_serve.specs.declared.doing.Execution.{Execution}
use Rattle.clone_serve.specs.declared.turn.ServeAnswer.{ServeAnswer}
use Rattle.clone_serve.specs.declared.turn.ServeAnswer.TheVariants as says
use Rattle.clone_serve.specs.declared.turn.ServeTurn.{ServeTurn}
use Rattle.clone_serve.specs.declared.turn.ServeTurn.TheVariants.{Ask, Done}
use Rattle.clone_network.specs.Connections.{Connection, StepsEnd, finds_loss, is_idle, is_open, is_serving, reaches_task, said_as, sent_behind, unread_then, was_refused}
use Rattle.clone_network.specs.declared.donor_step.DonorStep.{DonorStep}
use Rattle.clone_network.specs.declared.donor_step.DonorStep.TheVariants as step

-- who is bound, where a command is awaited
abbrev pub Bound : Doing → Option Caller → Type 0
Bound New bound = bound ≡ None
Bound (Ready caller) bound = bound ≡ Some caller
Bound other bound = ⊥

pub bound_free : (d : Doing) (bound : Option Caller) → Bound d bound → is_serving d ≡ false
bound_free New bound is = refl
bound_free (Ready caller) bound is = refl
bound_free other bound is = absurd is

-- what the task gets, if the frame reaches it
abbrev pub told_on : Bool → Option Frame → List ℕ → List ℕ
told_on reaches sends unread = if reaches then with_frame sends unread else unread

unread_same : (reaches : Bool) (unread : List ℕ) → unread_then reaches unread (sent_behind reaches unread) ≡ unread
unread_same true unread = refl
unread_same false unread = refl

pub unread_told : (reaches : Bool) (sends : Option Frame) (unread : List ℕ) → unread_then reaches unread (with_frame sends (sent_behind reaches unread)) ≡ told_on reaches sends unread
unread_told true sends unread = refl
unread_told false sends unread = refl

first_of : (a b : Bool) → (a && b) ≡ true → a ≡ true
first_of true b is = refl
first_of false b is = absurd (cc (is))

-- ---- a command's call is answered once

-- nothing more is asked then, and something was done
abbrev IsDone : Option After → Type 0
IsDone None = ⊤
IsDone (Some (Asks run what)) = ⊥
IsDone (Some (Ends next sends answer)) = is_idle answer ≡ false

refused_done : (caller : Caller) (why : CloneRefusal) → IsDone (Some (told caller (Err why)))
refused_done caller (Because why) = refl
refused_done caller NoMemory = refl

told_done : (caller : Caller) (stage : Option (Result StageInfo CloneRefusal)) → IsDone (option_map (told caller) stage)
told_done caller None = tt
told_done caller (Some (Ok info)) = refl
told_done caller (Some (Err why)) = refused_done caller why

started_done : (run : Execution) (done : Option (Result ⊤ CloneCause)) → IsDone (option_map (started run) done)
started_done run None = tt
started_done run (Some (Ok x)) = refl
started_done run (Some (Err why)) = refl

left_done : (done : Option (Result ⊤ CloneCause)) → IsDone (option_map left done)
left_done None = tt
left_done (Some (Ok x)) = refl
left_done (Some (Err why)) = refl

abbrev IsOfCommand : Doing → Type 0
IsOfCommand (Telling caller) = ⊤
IsOfCommand (Starting run) = ⊤
IsOfCommand Leaving = ⊤
IsOfCommand other = ⊥

after_done : (d : Doing) (given : DonorAnswer) → IsOfCommand d → IsDone (following.after d given)
after_done (Telling caller) given of = told_done caller (stage_in given)
after_done (Starting run) given of = started_done run (execute_in given)
after_done Leaving given of = left_done (exit_in given)
after_done d given of = absurd of

-- the call of a command, and what its end does meanwhile
pub asks_is : {found : Asked} {asked : DonorCall} {begun : Doing} → Some found ≡ Some (record { call = asked; doing = begun }) → (asked ≡ found.call) × (begun ≡ found.doing)
asks_is {found} {asked} {begun} is =
    let one : found ≡ record { call = asked; doing = begun } = cc (is) in
    (sym (ap (λ (c : Asked). c.call) one), sym (ap (λ (c : Asked). c.doing) one))

abbrev AsksSo : Option Asked → Type 0
AsksSo None = ⊤
AsksSo (Some found) = IsOfCommand found.doing

command_asks : (bound : Option Caller) (command : Frame) → AsksSo (command_of bound command)
command_asks None (frame.Init attempt version size compressed tasks) = tt
command_asks None (frame.Attach attempt task) = tt
command_asks None (frame.Reinit attempt stage finished) = tt
command_asks None (frame.Reinit2 attempt stage taken) = tt
command_asks None other = tt
command_asks (Some caller) (frame.Execute stage) = tt
command_asks (Some caller) (frame.Ack stage floor) = tt
command_asks (Some caller) frame.Exit = tt
command_asks (Some caller) other = tt

module _ {A : Type 0} (gives : A → DonorCall → DonorAnswer → A → Type 0) (a b : A) (at after : Connection) (answer : DonorStep) where
  -- a command was read, and its call was answered, but there was no memory
  pub record Tried (bound : Option Caller) : Type 0 where
    pub command : Frame
    pub of : IsFrameOf ofTask command
    pub left : List ℕ
    pub taken : at.to_donor ≡ spelling command ++ left
    pub asked : DonorCall
    pub begun : Doing
    pub asks : command_of bound command ≡ Some (record { call = asked; doing = begun })
    pub given : DonorAnswer
    pub gave : gives a asked given b

  -- A COMMAND was read, and its call was answered.
  pub record Carries (bound : Option Caller) : Type 0 where
    pub command : Frame
    pub of : IsFrameOf ofTask command
    pub left : List ℕ
    pub taken : at.to_donor ≡ spelling command ++ left
    pub asked : DonorCall
    pub begun : Doing
    pub asks : command_of bound command ≡ Some (record { call = asked; doing = begun })
    pub given : DonorAnswer
    pub gave : gives a asked given b
    pub next : Doing
    pub sends : Option Frame
    pub says : ServeAnswer
    pub follows : following.after begun given ≡ Some (Ends next sends says)
    pub was : WasSent sends
    pub is : after ≡ record at {
      to_donor = left;
      to_task = told_on (reaches_task at) sends at.to_task;
      doing = next;
    }
    pub answers : answer ≡ step.Served says

  -- WHAT COMES OF A STEP
  pub data Awaited (bound : Option Caller) : Type 0 where
    rests : b ≡ a → after ≡ at → Awaited bound
    loses : b ≡ a → BeginsNone ofTask at.to_donor → (at.cut || not at.held) ≡ true → after ≡ record at { found_lost = true } → Awaited bound
    garbles : (kept : List ℕ) → IsGarbled bound at.to_donor kept → b ≡ a → after ≡ record at { doing = Over } → answer ≡ step.Served (says.Garbled kept) → Awaited bound
    unfit : answer ≡ step.Served says.NoMemory → after.doing ≡ Over → (b ≡ a) ⊎ Tried bound → Awaited bound
    carries : Carries bound → Awaited bound

  module _ (bound : Option Caller) (of : Bound at.doing bound) (live : is_open at ≡ true) (e : StepsEnd gives a b at after answer) where
    abbrev old : List ℕ
    old = sent_behind (reaches_task at) at.to_task

    free : is_serving at.doing ≡ false
    free = bound_free at.doing bound of

    kept : at.found_lost ≡ false
    kept = by at.found_lost live
      where
        by : (lost : Bool) → (not lost && not (is_over at.doing)) ≡ true → lost ≡ false
        by false is = refl
        by true is = absurd (cc (is))

    finds : (given : ServeAnswer) → finds_loss at given ≡ (is_idle given && (at.cut || not at.held))
    finds given = ap (λ (x : Bool). if x then at.cut && not (was_refused given) else is_idle given && (at.cut || not at.held)) free

    after_is : after ≡ record at { to_donor = e.serves.left; to_task = unread_then (reaches_task at) at.to_task e.serves.sent; doing = e.serves.doing; found_lost = finds_loss at e.says }
    after_is = e.is ∙ ap (λ (c : Connection). record c { found_lost = finds_loss at e.says }) e.serves.is

    -- there is no command
    idle : e.serves.left ≡ at.to_donor → e.serves.sent ≡ old → e.serves.doing ≡ at.doing → e.says ≡ says.Idle → b ≡ a → BeginsNone ofTask at.to_donor → Awaited bound
    idle left_is sent_is doing_is says_is same none = by (at.cut || not at.held) refl
      where
        here : after ≡ record at { found_lost = at.cut || not at.held }
        here = after_is ∙ (λ i. record at { to_donor = left_is i; to_task = unread_then (reaches_task at) at.to_task (sent_is i); doing = doing_is i; found_lost = finds_loss at (says_is i) }) ∙ (λ i. record at { to_task = unread_same (reaches_task at) at.to_task i; found_lost = finds says.Idle i })

        by : (lost : Bool) → (at.cut || not at.held) ≡ lost → Awaited bound
        by true lost = loses same none lost (here ∙ ap (λ (x : Bool). record at { found_lost = x }) lost)
        by false lost = rests same (here ∙ ap (λ (x : Bool). record at { found_lost = x }) (lost ∙ sym kept))

    module _ (begun : Doing) (asked : DonorCall) (c : Commands bound at.to_donor e.serves.left begun asked) where
      done_last : (xs : List Exchange) (mid : Doing) (turn : ServeTurn) (sent : List ℕ) (u : A) (next : Doing) (sends : Option Frame) (given : ServeAnswer) → turn ≡ Done given → Goes xs mid turn sent e.serves.sent e.serves.doing e.says → GivesAll gives u xs b → (b ≡ u) × (e.serves.sent ≡ sent) × (e.serves.doing ≡ mid) × (e.says ≡ given)
      done_last [] mid turn sent u next sends given is goes gave = (gave, goes.1, goes.2, cc (goes.0, is))
      done_last (x ∷ xs) mid turn sent u next sends given is goes gave = absurd (cc (goes.0, is))

      followed : (given : DonorAnswer) (u mid : A) (xs : List Exchange) (d : Doing) (sent : List ℕ) (turn : ServeTurn) → gives a asked given u → (next : After) → following.after begun given ≡ Some next → IsDone (Some next) → WasSent (sends_of next) → d ≡ doing_after next → sent ≡ with_frame (sends_of next) old → turn ≡ turn_after next → Goes xs d turn sent e.serves.sent e.serves.doing e.says → GivesAll gives u xs b → Awaited bound
      followed given u mid xs d sent turn gave (Asks run what) is done was doing_is sent_is turn_is goes rest = absurd done
      followed given u mid xs d sent turn gave (Ends next sends spoke) is done was doing_is sent_is turn_is goes rest =
          let l = done_last xs d turn sent u next sends spoke turn_is goes rest in
          let says_is : e.says ≡ spoke = l.3 in
          let lost : finds_loss at e.says ≡ false = finds e.says ∙ ap (λ (x : ServeAnswer). is_idle x && (at.cut || not at.held)) says_is ∙ ap (λ (x : Bool). x && (at.cut || not at.held)) done in
          let sent_all : e.serves.sent ≡ with_frame sends old = l.1 ∙ sent_is in
          let doing_all : e.serves.doing ≡ next = l.2 ∙ doing_is in
          carries (record {
            command = c.command;
            of = c.is;
            left = e.serves.left;
            taken = c.taken;
            asked = asked;
            begun = begun;
            asks = c.asks;
            given = given;
            gave = subst (λ (x : A). gives a asked given x) (sym l.0) gave;
            next = next;
            sends = sends;
            says = spoke;
            follows = is;
            was = was;
            is = after_is ∙ (λ i. record at { to_donor = e.serves.left; to_task = unread_then (reaches_task at) at.to_task (sent_all i); doing = doing_all i; found_lost = lost i }) ∙ (λ i. record at { to_donor = e.serves.left; to_task = unread_told (reaches_task at) sends at.to_task i; doing = next; found_lost = (sym kept) i });
            answers = e.answers ∙ (λ i. said_as (lost i) (says_is i));
          })

      carried : (exchanges : List Exchange) → Goes exchanges begun (Ask asked) old e.serves.sent e.serves.doing e.says → GivesAll gives a exchanges b → Awaited bound
      carried [] goes gave = absurd (cc (goes.0))
      carried (x ∷ xs) (ask, (mid, sent, turn, on, rest)) (u, gave, more) = by on
        where
          first : asked ≡ x.0
          first = cc (ask)

          here : gives a asked x.1 u
          here = subst (λ (q : DonorCall). gives a q x.1 u) (sym first) gave

          of_command : IsOfCommand begun
          of_command = subst AsksSo c.asks (command_asks bound c.command)

          by : GoesOn begun x.1 old sent mid turn → Awaited bound
          by (inl (next, is, f)) = followed x.1 u u xs mid sent turn here next is (subst IsDone is (after_done begun x.1 of_command)) f.is f.doing f.sends f.turns rest more
          by (inr fails) =
              let l = done_last xs mid turn sent u Over None says.NoMemory fails.says rest more in
              let says_is : e.says ≡ says.NoMemory = l.3 in
              unfit (e.answers ∙ (λ i. said_as ((finds e.says ∙ ap (λ (y : ServeAnswer). is_idle y && (at.cut || not at.held)) says_is) i) (says_is i))) (ap (λ (y : Connection). y.doing) after_is ∙ l.2 ∙ fails.doing) (inr (record { command = c.command; of = c.is; left = e.serves.left; taken = c.taken; asked = asked; begun = begun; asks = c.asks; given = x.1; gave = subst (λ (y : A). gives a asked x.1 y) (sym l.0) here }))

    takes : (begun : Doing) (turn : ServeTurn) → TakesCommand bound at.to_donor e.serves.left at.doing begun turn → (exchanges : List Exchange) → Goes exchanges begun turn old e.serves.sent e.serves.doing e.says → GivesAll gives a exchanges b → Awaited bound
    takes begun (Ask asked) c exchanges goes gave = carried begun asked c exchanges goes gave
    takes begun (Done says.Idle) t [] goes gave = idle t.2 goes.1 (goes.2 ∙ t.3) (let same : Done says.Idle ≡ Done e.says = goes.0 in cc) gave t.1.0
    takes begun (Done says.Idle) t (x ∷ xs) goes gave = absurd (cc (goes.0))
    takes begun (Done (says.Garbled bytes)) t [] goes gave =
        let both : Done (says.Garbled bytes) ≡ Done e.says = goes.0 in
        let says_is : e.says ≡ says.Garbled bytes = cc in
        let lost : finds_loss at e.says ≡ false = finds e.says ∙ ap (λ (y : ServeAnswer). is_idle y && (at.cut || not at.held)) says_is in
        let doing_is : e.serves.doing ≡ Over = goes.2 ∙ t.2 in
        garbles bytes t.0 gave (after_is ∙ (λ i. record at { to_donor = t.1 i; to_task = unread_then (reaches_task at) at.to_task (goes.1 i); doing = doing_is i; found_lost = lost i }) ∙ (λ i. record at { to_task = unread_same (reaches_task at) at.to_task i; doing = Over; found_lost = (sym kept) i })) (e.answers ∙ (λ i. said_as (lost i) (says_is i)))
    takes begun (Done (says.Garbled bytes)) t (x ∷ xs) goes gave = absurd (cc (goes.0))
    takes begun (Done says.NoMemory) t [] goes gave =
        let both : Done says.NoMemory ≡ Done e.says = goes.0 in
        let says_is : e.says ≡ says.NoMemory = cc in
        unfit (e.answers ∙ (λ i. said_as ((finds e.says ∙ ap (λ (y : ServeAnswer). is_idle y && (at.cut || not at.held)) says_is) i) (says_is i))) (ap (λ (y : Connection). y.doing) after_is ∙ goes.2 ∙ t.1) (inl gave)
    takes begun (Done says.NoMemory) t (x ∷ xs) goes gave = absurd (cc (goes.0))
    takes begun (Done other) t exchanges goes gave = absurd t

    begins_by : (d : Doing) → at.doing ≡ d → Bound d bound → (begun : Doing) (turn : ServeTurn) → Begins d at.to_donor e.serves.left begun turn → TakesCommand bound at.to_donor e.serves.left at.doing begun turn
    begins_by New is o begun turn begins = subst (λ (x : Option Caller). TakesCommand x at.to_donor e.serves.left at.doing begun turn) (sym o) (subst (λ (x : Doing). TakesCommand None at.to_donor e.serves.left x begun turn) (sym is) begins)
    begins_by (Ready caller) is o begun turn begins = subst (λ (x : Option Caller). TakesCommand x at.to_donor e.serves.left at.doing begun turn) (sym o) (subst (λ (x : Doing). TakesCommand (Some caller) at.to_donor e.serves.left x begun turn) (sym is) begins)
    begins_by other is o begun turn begins = absurd o

    pub awaited : Awaited bound
    awaited =
        let s = e.serves.steps in
        takes s.is.begun s.is.turn (begins_by at.doing refl of s.is.begun s.is.turn s.is.begins) s.exchanges s.is.goes s.answers
