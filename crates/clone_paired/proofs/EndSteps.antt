-- A donor's end that serves no EXECUTE, and finds nothing to do or a loss, leaves the clone paired.
use Rattle.std.proofs.Common.{ℕ, ◌≡◌, ◌∙◌, List, [], ◌∷◌, Bool, true, false, if◌then◌else◌, Option, None, Some, refl, sym, ap, subst}
use Rattle.std.specs.Prelude.{not, ◌||◌, ◌&&◌}
use Rattle.clone_session.specs.declared.caller.Caller.{Caller}
use Rattle.clone_wire.specs.Answers.{BeginsNone}
use Rattle.clone_wire.specs.declared.frame.Side.TheVariants.{Command as ofTask}
use Rattle.clone_calls.specs.declared.answer.DonorAnswer.{DonorAnswer}
use Rattle.clone_calls.specs.declared.call.DonorCall.{DonorCall}
use Rattle.clone_serve.specs.Serving.{TakesCommand}
use Rattle.clone_serve.specs.Stepping.{Goes, GivesAll, IsStep}
use Rattle.clone_serve.specs.Telling.{Exchange}
use Rattle.clone_serve.specs.declared.doing.Doing.{Doing}
use Rattle.clone_serve.specs.declared.doing.Doing.TheVariants as doing
use Rattle.clone_serve.specs.declared.turn.ServeAnswer.{ServeAnswer}
use Rattle.clone_serve.specs.declared.turn.ServeAnswer.TheVariants as says
use Rattle.clone_serve.specs.declared.turn.ServeTurn.{ServeTurn}
use Rattle.clone_serve.specs.declared.turn.ServeTurn.TheVariants.{Ask, Done}
use Rattle.clone_network.specs.Connections.{Connection, StepsEnd, finds_loss, is_idle, is_serving, reaches_task, said_as, sent_behind, unread_then, was_refused}
use Rattle.clone_network.specs.declared.donor_step.DonorStep.{DonorStep}
use Rattle.clone_paired.specs.Quiet.{FindsNothing}
use Rattle.clone_paired.proofs.QuietEnds.{IsAwaiting, MayAwait, ask_does, begins_idle, command_does, done_ends}

-- ---- what such a step does

-- nothing was read or asked
record Idles {A : Type 0} (a b : A) (received left old new : List ℕ) (d t : Doing) : Type 0 where
  donor : b ≡ a
  left_is : left ≡ received
  sent : new ≡ old
  doing_is : t ≡ d

no_exchange : {A : Type 0} (gives : A → DonorCall → DonorAnswer → A → Type 0) (a b : A) (exchanges : List Exchange) (d t : Doing) (answer last : ServeAnswer) (old new : List ℕ) → Goes exchanges d (Done answer) old new t last → GivesAll gives a exchanges b → (b ≡ a) × (new ≡ old) × (t ≡ d)
no_exchange gives a b [] d t answer last old new goes given = (given, goes.1, goes.2)
no_exchange gives a b (exchange ∷ more) d t answer last old new goes given = absurd (cc (goes.0))

takes_idles : {A : Type 0} (gives : A → DonorCall → DonorAnswer → A → Type 0) (a b : A) (exchanges : List Exchange) (bound : Option Caller) (received left old new : List ℕ) (d begun t : Doing) (turn : ServeTurn) → TakesCommand bound received left d begun turn → Goes exchanges begun turn old new t says.Idle → GivesAll gives a exchanges b → Idles a b received left old new d t
takes_idles gives a b exchanges bound received left old new d begun t (Ask asked) takes goes given = absurd (ask_does exchanges begun asked old new t says.Idle (subst MayAwait takes.asks (command_does bound takes.command)) goes refl)
takes_idles gives a b exchanges bound received left old new d begun t (Done says.Idle) takes goes given = let none = no_exchange gives a b exchanges begun t says.Idle says.Idle old new goes given in record { donor = none.0; left_is = takes.2; sent = none.1; doing_is = none.2 ∙ takes.3 }
takes_idles gives a b exchanges bound received left old new d begun t (Done (says.Garbled kept)) takes goes given = absurd (cc (done_ends exchanges begun old new t (says.Garbled kept) says.Idle goes))
takes_idles gives a b exchanges bound received left old new d begun t (Done says.NoMemory) takes goes given = absurd (cc (done_ends exchanges begun old new t says.NoMemory says.Idle goes))
takes_idles gives a b exchanges bound received left old new d begun t (Done other) takes goes given = absurd takes

waits_idles : {A : Type 0} (gives : A → DonorCall → DonorAnswer → A → Type 0) (a b : A) (exchanges : List Exchange) (received left old new : List ℕ) (d begun t : Doing) (turn : ServeTurn) → turn ≡ Done says.Idle → left ≡ received → begun ≡ d → Goes exchanges begun turn old new t says.Idle → GivesAll gives a exchanges b → Idles a b received left old new d t
waits_idles gives a b exchanges received left old new d begun t turn turn_is left_is begun_is goes given = let none = no_exchange gives a b exchanges begun t says.Idle says.Idle old new (subst (λ (x : ServeTurn). Goes exchanges begun x old new t says.Idle) turn_is goes) given in record { donor = none.0; left_is = left_is; sent = none.1; doing_is = none.2 ∙ begun_is }

step_idles : {A : Type 0} (gives : A → DonorCall → DonorAnswer → A → Type 0) (a b : A) (exchanges : List Exchange) (received left old new : List ℕ) (d t : Doing) → is_serving d ≡ false → IsStep exchanges d received left old new t says.Idle → GivesAll gives a exchanges b → Idles a b received left old new d t
step_idles gives a b exchanges received left old new doing.New t idle s given = takes_idles gives a b exchanges None received left old new doing.New s.begun t s.turn s.begins s.goes given
step_idles gives a b exchanges received left old new (doing.Ready caller) t idle s given = takes_idles gives a b exchanges (Some caller) received left old new (doing.Ready caller) s.begun t s.turn s.begins s.goes given
step_idles gives a b exchanges received left old new (doing.Serving run work) t idle s given = absurd (cc (idle))
step_idles gives a b exchanges received left old new (doing.Telling caller) t idle s given = waits_idles gives a b exchanges received left old new (doing.Telling caller) s.begun t s.turn s.begins.0 s.begins.1 s.begins.2 s.goes given
step_idles gives a b exchanges received left old new (doing.Starting run) t idle s given = waits_idles gives a b exchanges received left old new (doing.Starting run) s.begun t s.turn s.begins.0 s.begins.1 s.begins.2 s.goes given
step_idles gives a b exchanges received left old new doing.Leaving t idle s given = waits_idles gives a b exchanges received left old new doing.Leaving s.begun t s.turn s.begins.0 s.begins.1 s.begins.2 s.goes given
step_idles gives a b exchanges received left old new doing.Over t idle s given = waits_idles gives a b exchanges received left old new doing.Over s.begun t s.turn s.begins.0 s.begins.1 s.begins.2 s.goes given

-- the end is as it was, but that it has found a loss where there is one
pub record RestsSo {A : Type 0} (a b : A) (at after : Connection) : Type 0 where
  pub donor : b ≡ a
  pub is : after ≡ record at { found_lost = at.cut || not at.held }
  pub none : (bound : Doing) → at.doing ≡ bound → IsAwaiting bound → BeginsNone ofTask at.to_donor

same_bytes : (reaches : Bool) (unread sent : List ℕ) → sent ≡ sent_behind reaches unread → unread_then reaches unread sent ≡ unread
same_bytes true unread sent is = is
same_bytes false unread sent is = refl

pub end_rests : {A : Type 0} (gives : A → DonorCall → DonorAnswer → A → Type 0) (a b : A) (at after : Connection) (answer : DonorStep) → is_serving at.doing ≡ false → FindsNothing answer → StepsEnd gives a b at after answer → RestsSo a b at after
end_rests gives a b at after answer idle rests e = by (finds_loss at e.says) refl
  where
    lost_is : (answer : ServeAnswer) → finds_loss at answer ≡ (is_idle answer && (at.cut || not at.held))
    lost_is answer = ap (λ (s : Bool). if s then at.cut && not (was_refused answer) else is_idle answer && (at.cut || not at.held)) idle

    idle_of : (says_it : ServeAnswer) → FindsNothing (said_as (is_idle says_it && (at.cut || not at.held)) says_it) → says_it ≡ says.Idle
    idle_of says.Idle r = refl
    idle_of other r = absurd r

    by : (lost : Bool) → finds_loss at e.says ≡ lost → RestsSo a b at after
    by lost is =
        let says_is : e.says ≡ says.Idle = idle_of e.says (subst FindsNothing (e.answers ∙ ap (λ (l : Bool). said_as l e.says) (lost_is e.says)) rests) in
        let s = e.serves.steps in
        let so = step_idles gives a b s.exchanges at.to_donor e.serves.left (sent_behind (reaches_task at) at.to_task) e.serves.sent at.doing e.serves.doing idle (subst (λ (x : ServeAnswer). IsStep s.exchanges at.doing at.to_donor e.serves.left (sent_behind (reaches_task at) at.to_task) e.serves.sent e.serves.doing x) says_is s.is) s.answers in
        let found : finds_loss at e.says ≡ (at.cut || not at.held) = lost_is e.says ∙ ap (λ (x : ServeAnswer). is_idle x && (at.cut || not at.held)) says_is in
        let served : e.served ≡ at = e.serves.is ∙ ap (λ (x : List ℕ). record at { to_donor = x; to_task = unread_then (reaches_task at) at.to_task e.serves.sent; doing = e.serves.doing }) so.left_is ∙ ap (λ (x : List ℕ). record at { to_task = x; doing = e.serves.doing }) (same_bytes (reaches_task at) at.to_task e.serves.sent so.sent) ∙ ap (λ (x : Doing). record at { doing = x }) so.doing_is in
        record {
          donor = so.donor;
          is = e.is ∙ ap (λ (x : Connection). record x { found_lost = finds_loss at e.says }) served ∙ ap (λ (x : Bool). record at { found_lost = x }) found;
          none = λ bound is awaits. begins_idle at.doing at.to_donor e.serves.left (sent_behind (reaches_task at) at.to_task) e.serves.sent e.serves.doing s.exchanges (subst IsAwaiting (sym is) awaits) (subst (λ (x : ServeAnswer). IsStep s.exchanges at.doing at.to_donor e.serves.left (sent_behind (reaches_task at) at.to_task) e.serves.sent e.serves.doing x) says_is s.is);
        }
