-- A step asks for five calls at most, awaits each answer, and sends the frames that tell them.
use Rattle.std.proofs.Common.{◌≡◌, ℕ, ◌≤◌, ◌<◌, true, false, List, [], ◌∷◌, ◌++◌, length, Some, None, refl, sym, ap, ap₂, subst, ◌∙◌, arith, inl, inr}
use Rattle.std.specs.Prelude.{⊤}
use Rattle.std.proofs.lemmas.List.{append-nil}
use Rattle.std.specs.declared.option.Option.{Option}
use Rattle.clone_session.specs.declared.caller.Caller.{Caller}
use Rattle.clone_wire.specs.declared.frame.Frame.{Frame}
use Rattle.clone_wire.specs.Spelling.{spelling}
use Rattle.clone_calls.specs.declared.answer.DonorAnswer.{DonorAnswer}
use Rattle.clone_calls.specs.declared.call.DonorCall.{DonorCall}
use Rattle.clone_serve.specs.Following.{call_in}
use Rattle.clone_serve.specs.Serving.{Begins, Commands, Follows, GoesOn, WasSent, doing_after, sends_of, turn_after, with_frame}
use Rattle.clone_serve.specs.Stepping.{GivesAll, Goes, Sends, Steps}
use Rattle.clone_serve.specs.Telling.{Exchange, frame_for, frames_for, frames_of}
use Rattle.clone_serve.specs.declared.after.After.{After}
use Rattle.clone_serve.specs.declared.after.After.TheVariants.{Asks, Ends}
use Rattle.clone_serve.specs.declared.doing.Doing.{Doing}
use Rattle.clone_serve.specs.declared.doing.Doing.TheVariants.{New, Ready, Serving}
use Rattle.clone_serve.specs.declared.doing.Execution.{Execution}
use Rattle.clone_serve.specs.declared.doing.Work.{Work}
use Rattle.clone_serve.specs.declared.doing.Work.TheVariants.{Archive, Claim, Read}
use Rattle.clone_serve.specs.declared.turn.ServeAnswer.{ServeAnswer}
use Rattle.clone_serve.specs.declared.turn.ServeAnswer.TheVariants.{NoMemory}
use Rattle.clone_serve.specs.declared.turn.ServeTurn.{ServeTurn}
use Rattle.clone_serve.specs.declared.turn.ServeTurn.TheVariants.{Ask, Done}
use Rattle.clone_serve.proofs.AnswerLemmas.{Fits, calls_left, left_after, serving_fits, some_left}
use Rattle.clone_serve.proofs.CommandLemmas.{command_fits}

-- how many more calls a step may ask
abbrev pub asks_left : Doing → ServeTurn → ℕ
asks_left d (Ask asked) = calls_left d
asks_left d (Done says) = 0

-- what is asked fits what is done
abbrev pub FitsTurn : Doing → ServeTurn → Type 0
FitsTurn d (Ask asked) = Fits d asked
FitsTurn d (Done says) = ⊤

taken_fits : (bound : Option Caller) (received left : List ℕ) (t : Doing) (asked : DonorCall) → Commands bound received left t asked → Fits t asked
taken_fits bound received left t asked taken = command_fits bound taken.command (record { call = asked; doing = t }) taken.asks

same_ask : (a b : DonorCall) → Ask a ≡ Ask b → a ≡ b
same_ask a b e = cc

same_done : (a b : ServeAnswer) → Done a ≡ Done b → a ≡ b
same_done a b e = cc

serving_asks : (run : Execution) (work : Work) (t : Doing) (turn : ServeTurn) → turn ≡ Ask (call_in run work) → t ≡ Serving run work → FitsTurn t turn
serving_asks run work t turn asks is = subst (λ d. FitsTurn d turn) (sym is) (subst (FitsTurn (Serving run work)) (sym asks) (serving_fits run work))

pub begun_fits : (d t : Doing) (received left : List ℕ) (turn : ServeTurn) → Begins d received left t turn → FitsTurn t turn
begun_fits New t received left (Ask asked) begins = taken_fits None received left t asked begins
begun_fits (Ready caller) t received left (Ask asked) begins = taken_fits (Some caller) received left t asked begins
begun_fits (Serving run work) t received left turn begins = serving_asks run work t turn begins.0 begins.2
begun_fits _ t received left (Ask asked) begins = absurd (cc (begins.0))
begun_fits _ t received left (Done says) begins = tt

next_fits : (next : After) (t : Doing) (turn : ServeTurn) → t ≡ doing_after next → turn ≡ turn_after next → FitsTurn t turn
next_fits (Asks run work) t turn doing turns = serving_asks run work t turn turns doing
next_fits (Ends doing sends says) t turn is turns = subst (FitsTurn t) (sym turns) tt

pub gone_fits : (d t : Doing) (given : DonorAnswer) (sent_old sent_new : List ℕ) (turn : ServeTurn) → GoesOn d given sent_old sent_new t turn → FitsTurn t turn
gone_fits d t given sent_old sent_new turn (inl went) = next_fits went.0 t turn went.2.doing went.2.turns
gone_fits d t given sent_old sent_new turn (inr fails) = subst (FitsTurn t) (sym fails.says) tt

-- ---- fewer and fewer calls

next_left : (next : After) → asks_left (doing_after next) (turn_after next) ≡ left_after next
next_left (Asks run work) = refl
next_left (Ends doing sends says) = refl

calls_some : (d : Doing) → 0 < calls_left d
calls_some (Serving run work) = some_left work
calls_some _ = omega arith

pub gone_fewer : (d t : Doing) (asked : DonorCall) (given : DonorAnswer) (sent_old sent_new : List ℕ) (turn : ServeTurn) → Fits d asked → GoesOn d given sent_old sent_new t turn → asks_left t turn < calls_left d
gone_fewer d t asked given sent_old sent_new turn fits (inl went) =
    let fewer = (fits.right given went.0 went.1).fewer in
    let same : asks_left t turn ≡ left_after went.0 = ap₂ asks_left went.2.doing went.2.turns ∙ next_left went.0 in
    omega arith
gone_fewer d t asked given sent_old sent_new turn fits (inr fails) =
    let none : asks_left t turn ≡ 0 = ap (asks_left t) fails.says in
    let some = calls_some d in
    omega arith

calls_few : (d : Doing) → calls_left d ≤ 5
calls_few (Serving run Claim) = omega arith
calls_few (Serving run (Read place true)) = omega arith
calls_few (Serving run (Read place false)) = omega arith
calls_few (Serving run (Archive place limit)) = omega arith
calls_few _ = omega arith

pub asks_few : (d : Doing) (turn : ServeTurn) → asks_left d turn ≤ 5
asks_few d (Done says) = omega arith
asks_few d (Ask asked) = calls_few d

-- ---- the rest of a step

-- from a turn on, over something that answers
pub record Rest {A : Type 0} (gives : A → DonorCall → DonorAnswer → A → Type 0) (a b : A) (d : Doing) (turn : ServeTurn) (sent_old sent_new : List ℕ) (t : Doing) (says : ServeAnswer) : Type 0 where
  pub exchanges : List Exchange
  pub goes : Goes exchanges d turn sent_old sent_new t says
  pub answers : GivesAll gives a exchanges b
  pub few : length exchanges ≤ asks_left d turn

pub no_more : {A : Type 0} (gives : A → DonorCall → DonorAnswer → A → Type 0) (a : A) (d : Doing) (sent : List ℕ) (says : ServeAnswer) → Rest gives a a d (Done says) sent sent d says
no_more gives a d sent says = record { exchanges = []; goes = (refl, refl, refl); answers = refl; few = omega arith }

-- one exchange before it
pub one_more : {A : Type 0} (gives : A → DonorCall → DonorAnswer → A → Type 0) (a mid b : A) (d e t : Doing) (asked : DonorCall) (given : DonorAnswer) (turn : ServeTurn) (sent_old sent_mid sent_new : List ℕ) (says : ServeAnswer)
    → Fits d asked → gives a asked given mid → GoesOn d given sent_old sent_mid e turn → Rest gives mid b e turn sent_mid sent_new t says → Rest gives a b d (Ask asked) sent_old sent_new t says
one_more gives a mid b d e t asked given turn sent_old sent_mid sent_new says fits answered goes rest = record {
  exchanges = (asked, given) ∷ rest.exchanges;
  goes = (refl, (e, sent_mid, turn, goes, rest.goes));
  answers = (mid, answered, rest.answers);
  few = (let fewer = gone_fewer d e asked given sent_old sent_mid turn fits goes in let few = rest.few in omega arith);
}

-- the rest of a step that has begun is the step
pub whole : {A : Type 0} (gives : A → DonorCall → DonorAnswer → A → Type 0) (a b : A) (d e t : Doing) (turn : ServeTurn) (received left sent_old sent_new : List ℕ) (says : ServeAnswer)
    → Begins d received left e turn → Rest gives a b e turn sent_old sent_new t says → Steps gives a b d received left sent_old sent_new t says
whole gives a b d e t turn received left sent_old sent_new says begins rest = record {
  exchanges = rest.exchanges;
  is = record { begun = e; turn = turn; begins = begins; goes = rest.goes; few = (let few = rest.few in let most = asks_few e turn in omega arith) };
  answers = rest.answers;
}

-- ---- what a step sends

-- a turn that asks for nothing is the last
pub stops : (exchanges : List Exchange) (d t : Doing) (turn : ServeTurn) (sent_old sent_new : List ℕ) (said says : ServeAnswer) → turn ≡ Done said → Goes exchanges d turn sent_old sent_new t says → (exchanges ≡ []) × (sent_new ≡ sent_old) × (says ≡ said)
stops [] d t turn sent_old sent_new said says done goes = (refl, goes.1, same_done says said (sym goes.0 ∙ done))
stops (x ∷ xs) d t turn sent_old sent_new said says done goes = absurd (cc (done, goes.0))

one_sent : (told : Option Frame) (sent_old sent_new : List ℕ) (says : ServeAnswer) → WasSent told → sent_new ≡ with_frame told sent_old → Sends (frames_of told ++ []) sent_old sent_new says
one_sent None sent_old sent_new says is e = inl (tt, e ∙ sym (append-nil sent_old))
one_sent (Some f) sent_old sent_new says is e = inl ((is, tt), e ∙ ap (λ l. sent_old ++ l) (sym (append-nil (spelling f))))

followed_sends : (next : After) (told : Option Frame) (exchanges : List Exchange) (d t : Doing) (turn : ServeTurn) (sent_old sent_mid sent_new : List ℕ) (says : ServeAnswer) → sends_of next ≡ told → Follows next sent_old sent_mid d turn → Goes exchanges d turn sent_mid sent_new t says
    → Sends (frames_for exchanges) sent_mid sent_new says → Sends (frames_of told ++ frames_for exchanges) sent_old sent_new says
followed_sends (Asks run work) told exchanges d t turn sent_old sent_mid sent_new says tells follows goes more =
    subst (λ f. Sends (frames_of f ++ frames_for exchanges) sent_old sent_new says) tells (subst (λ s. Sends (frames_for exchanges) s sent_new says) follows.sends more)
followed_sends (Ends doing sends said) told exchanges d t turn sent_old sent_mid sent_new says tells follows goes more =
    let last = stops exchanges d t turn sent_mid sent_new said says follows.turns goes in
    subst (λ f. Sends (frames_of f ++ frames_for exchanges) sent_old sent_new says) tells
    (subst (λ xs. Sends (frames_of sends ++ frames_for xs) sent_old sent_new says) (sym last.0) (one_sent sends sent_old sent_new says follows.is (last.1 ∙ follows.sends)))

exchange_sends : (x : Exchange) (exchanges : List Exchange) (d e t : Doing) (turn : ServeTurn) (sent_old sent_mid sent_new : List ℕ) (says : ServeAnswer) → Fits d x.0 → GoesOn d x.1 sent_old sent_mid e turn → Goes exchanges e turn sent_mid sent_new t says
    → Sends (frames_for exchanges) sent_mid sent_new says → Sends (frames_for (x ∷ exchanges)) sent_old sent_new says
exchange_sends x exchanges d e t turn sent_old sent_mid sent_new says fits (inl went) goes more =
    followed_sends went.0 (frame_for x.0 x.1) exchanges e t turn sent_old sent_mid sent_new says (fits.right x.1 went.0 went.1).sends went.2 goes more
exchange_sends x exchanges d e t turn sent_old sent_mid sent_new says fits (inr fails) goes more =
    let last = stops exchanges e t turn sent_mid sent_new NoMemory says fails.says goes in
    inr (last.1 ∙ fails.sends, last.2)

-- what a step sends
pub goes_sends : (exchanges : List Exchange) (d t : Doing) (turn : ServeTurn) (sent_old sent_new : List ℕ) (says : ServeAnswer) → FitsTurn d turn → Goes exchanges d turn sent_old sent_new t says → Sends (frames_for exchanges) sent_old sent_new says
goes_sends [] d t turn sent_old sent_new says fits goes = inl (tt, goes.1 ∙ sym (append-nil sent_old))
goes_sends (x ∷ xs) d t turn sent_old sent_new says fits goes =
    exchange_sends x xs d goes.1.0 t goes.1.2 sent_old goes.1.1 sent_new says (subst (FitsTurn d) goes.0 fits) goes.1.3 goes.1.4
    (goes_sends xs goes.1.0 t goes.1.2 goes.1.1 sent_new says (gone_fits d goes.1.0 x.1 sent_old goes.1.1 goes.1.2 goes.1.3) goes.1.4)
