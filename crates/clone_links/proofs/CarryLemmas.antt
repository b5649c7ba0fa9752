-- What was served goes on by a step, whatever comes of it.
use Rattle.std.proofs.Common.{◌≡◌, ◌∙◌, ℕ, List, [], ◌∷◌, ◌++◌, Some, None, refl, sym, ap, subst, inl, inr, append_assoc}
use Rattle.std.proofs.lemmas.List.{append-nil}
use Rattle.std.proofs.lemmas.Option.{same_Some}
use Rattle.std.specs.declared.option.Option.{Option}
use Rattle.clone_wire.specs.Spelling.{spelling}
use Rattle.clone_wire.specs.declared.frame.Frame.{Frame}
use Rattle.clone_calls.specs.declared.answer.DonorAnswer.{DonorAnswer}
use Rattle.clone_calls.specs.declared.call.DonorCall.{DonorCall}
use Rattle.clone_serve.specs.Following.{after, call_in}
use Rattle.clone_serve.specs.Runs.{Served, asks}
use Rattle.clone_serve.specs.Serving.{Begins, Follows, GoesOn, sends_of, with_frame}
use Rattle.clone_serve.specs.Stepping.{Goes, IsStep}
use Rattle.clone_serve.specs.Telling.{Exchange}
use Rattle.clone_serve.specs.declared.after.After.{After}
use Rattle.clone_serve.specs.declared.doing.Doing.{Doing}
use Rattle.clone_serve.specs.declared.doing.Doing.TheVariants.{Serving}
use Rattle.clone_serve.specs.declared.turn.ServeAnswer.{ServeAnswer}
use Rattle.clone_serve.specs.declared.turn.ServeAnswer.TheVariants.{NoMemory}
use Rattle.clone_serve.specs.declared.turn.ServeTurn.{ServeTurn}
use Rattle.clone_serve.specs.declared.turn.ServeTurn.TheVariants.{Ask}
use Rattle.clone_serve.proofs.ServedLemmas as served
use Rattle.clone_serve.proofs.StepLemmas.{stops}
use Rattle.clone_links.specs.Ending.{IsCauseIn}
use Rattle.clone_links.specs.Serving.{AsksNext, Carries}
use Rattle.clone_links.specs.declared.end.ServeEnd.{ServeEnd}
use Rattle.clone_links.proofs.CauseLemmas.{IsByBytes}

-- ---- a step behind bytes that were sent before

frame_behind : (o : Option Frame) (before bytes : List ℕ) → before ++ with_frame o bytes ≡ with_frame o (before ++ bytes)
frame_behind None before bytes = refl
frame_behind (Some f) before bytes = sym (append_assoc before bytes (spelling f))

gone_behind : (before : List ℕ) (d : Doing) (given : DonorAnswer) (sent_old sent_new : List ℕ) (t : Doing) (turn : ServeTurn) → GoesOn d given sent_old sent_new t turn → GoesOn d given (before ++ sent_old) (before ++ sent_new) t turn
gone_behind before d given sent_old sent_new t turn (inl went) = inl (
  went.0,
  went.1,
  record {
    doing = went.2.doing;
    sends = ap (λ (l : List ℕ). before ++ l) went.2.sends ∙ frame_behind (sends_of went.0) before sent_old;
    is = went.2.is;
    turns = went.2.turns;
  },
)
gone_behind before d given sent_old sent_new t turn (inr fails) = inr (record { doing = fails.doing; sends = ap (λ (l : List ℕ). before ++ l) fails.sends; says = fails.says })

goes_behind : (before : List ℕ) (exchanges : List Exchange) (d : Doing) (turn : ServeTurn) (sent_old sent_new : List ℕ) (t : Doing) (says : ServeAnswer) → Goes exchanges d turn sent_old sent_new t says → Goes exchanges d turn (before ++ sent_old) (before ++ sent_new) t says
goes_behind before [] d turn sent_old sent_new t says goes = (goes.0, ap (λ (l : List ℕ). before ++ l) goes.1, goes.2)
goes_behind before (x ∷ xs) d turn sent_old sent_new t says goes = (
  goes.0,
  (
    goes.1.0,
    before ++ goes.1.1,
    goes.1.2,
    gone_behind before d x.1 sent_old goes.1.1 goes.1.0 goes.1.2 goes.1.3,
    goes_behind before xs goes.1.0 goes.1.2 goes.1.1 sent_new t says goes.1.4,
  ),
)

-- where nothing was to be sent when the step began
pub step_behind : (before : List ℕ) (exchanges : List Exchange) (d : Doing) (left rest bytes : List ℕ) (t : Doing) (says : ServeAnswer) → IsStep exchanges d left rest [] bytes t says → IsStep exchanges d left rest before (before ++ bytes) t says
step_behind before exchanges d left rest bytes t says step = record {
  begun = step.begun;
  turn = step.turn;
  begins = step.begins;
  goes = subst (λ (l : List ℕ). Goes exchanges step.begun step.turn l (before ++ bytes) t says) (append-nil before) (goes_behind before exchanges step.begun step.turn [] bytes t says step.goes);
  few = step.few;
}

-- ---- the last step

-- what was served and told
pub all_told : (end : ServeEnd) (d : Doing) (exchanges : List Exchange) (received left sent : List ℕ) → Served d exchanges received left sent → IsCauseIn end d left → Carries end exchanges received sent
all_told end d exchanges received left sent s cause = record { doing = d; left = left; told = exchanges; untold = []; served = s; last = tt; calls = sym (append-nil exchanges); cause = cause }

-- and one call more, which wasn't
one_untold : (end : ServeEnd) (d : Doing) (exchanges : List Exchange) (x : Exchange) (xs : List Exchange) (received left sent : List ℕ) → Served d exchanges received left sent → AsksNext d left x.0 → xs ≡ [] → IsCauseIn end d left → Carries end (exchanges ++ x ∷ xs) received sent
one_untold end d exchanges x xs received left sent s asked none cause = record {
  doing = d;
  left = left;
  told = exchanges;
  untold = x ∷ [];
  served = s;
  last = asked;
  calls = ap (λ (ys : List Exchange). exchanges ++ x ∷ ys) none;
  cause = cause;
}

same_ask : (a b : DonorCall) → a ≡ b → Ask a ≡ Ask b
same_ask a b e = ap (λ (c : DonorCall). Ask c) e

asks_next : (d : Doing) (left : List ℕ) (asked : DonorCall) → asks d ≡ Some asked → AsksNext d left asked
asks_next (Serving run work) left asked e = (left, Serving run work, (same_ask asked (call_in run work) (sym (same_Some (call_in run work) asked e)), refl, refl))
asks_next _ left asked e = absurd (cc (e))

abbrev AsksOn : Doing → ServeTurn → Type 0
AsksOn d turn = (asked : DonorCall) → turn ≡ Ask asked → asks d ≡ Some asked

follows_on : (next : After) (sent_old sent_new : List ℕ) (t : Doing) (turn : ServeTurn) → Follows next sent_old sent_new t turn → AsksOn t turn
follows_on next sent_old sent_new t turn follows asked e = ap asks follows.doing ∙ served.asks_again next asked (sym follows.turns ∙ e)

module _ (end : ServeEnd) (says : ServeAnswer) (t : Doing) (after_sent : List ℕ) where
  -- it isn't the bytes that end it
  abbrev IsNotBytes : Type 0
  IsNotBytes = (f : Doing) (l : List ℕ) → IsCauseIn end f l

  -- an exchange, and the rest of the step
  exchange_ends : (x : Exchange) (xs before : List Exchange) (d e f : Doing) (turn : ServeTurn) (received left rest sent mid : List ℕ) → IsNotBytes
      → ((next : After) → after e x.1 ≡ Some next → Follows next sent mid f turn → Served f (before ++ x ∷ []) received rest mid)
      → (AsksOn f turn → Served f (before ++ x ∷ []) received rest mid → Carries end ((before ++ x ∷ []) ++ xs) received after_sent)
      → Served d before received left sent → AsksNext d left x.0
      → GoesOn e x.1 sent mid f turn → Goes xs f turn mid after_sent t says → Carries end (before ++ x ∷ xs) received after_sent
  exchange_ends x xs before d e f turn received left rest sent mid never one more s asked (inl went) goes =
      subst (λ (l : List Exchange). Carries end l received after_sent) (append_assoc before (x ∷ []) xs) (more (follows_on went.0 sent mid f turn went.2) (one went.0 went.1 went.2))
  exchange_ends x xs before d e f turn received left rest sent mid never one more s asked (inr fails) goes =
      let last = stops xs f t turn mid after_sent NoMemory says fails.says goes in
      subst (λ (l : List ℕ). Carries end (before ++ x ∷ xs) received l) (sym (last.1 ∙ fails.sends)) (one_untold end d before x xs received left sent s asked last.0 (never d left))

  -- nothing more is asked
  none_ends : (before : List Exchange) (d : Doing) (received left sent : List ℕ) → after_sent ≡ sent → IsCauseIn end d left → Served d before received left sent → Carries end (before ++ []) received after_sent
  none_ends before d received left sent same cause s =
      subst (λ (xs : List Exchange). Carries end xs received after_sent) (sym (append-nil before)) (subst (λ (l : List ℕ). Carries end before received l) (sym same) (all_told end d before received left sent s cause))

  rest_ends : (exchanges before : List Exchange) (d : Doing) (turn : ServeTurn) (received left sent : List ℕ) → IsNotBytes → AsksOn d turn → Served d before received left sent
      → Goes exchanges d turn sent after_sent t says → Carries end (before ++ exchanges) received after_sent
  rest_ends [] before d turn received left sent never on s goes = none_ends before d received left sent goes.1 (never d left) s
  rest_ends (x ∷ xs) before d turn received left sent never on s goes =
      exchange_ends x xs before d d goes.1.0 goes.1.2 received left left sent goes.1.1 never
      (λ next follows then. served.goes_on d goes.1.0 before received left sent goes.1.1 x.0 x.1 next goes.1.2 s (on x.0 goes.0) follows then)
      (λ again one. rest_ends xs (before ++ x ∷ []) goes.1.0 goes.1.2 received left goes.1.1 never again one goes.1.4)
      s (asks_next d left x.0 (on x.0 goes.0)) goes.1.3 goes.1.4

  first_ends : (exchanges before : List Exchange) (d e : Doing) (turn : ServeTurn) (received left rest sent : List ℕ) → IsByBytes end exchanges d left → Served d before received left sent
      → Begins d left rest e turn → Goes exchanges e turn sent after_sent t says → Carries end (before ++ exchanges) received after_sent
  first_ends [] before d e turn received left rest sent (inl at_once) s b goes = none_ends before d received left sent goes.1 at_once.1 s
  first_ends [] before d e turn received left rest sent (inr never) s b goes = none_ends before d received left sent goes.1 (never d left) s
  first_ends (x ∷ xs) before d e turn received left rest sent (inl at_once) s b goes = absurd (cc (at_once.0))
  first_ends (x ∷ xs) before d e turn received left rest sent (inr never) s b goes =
      let asked : Begins d left rest e (Ask x.0) = subst (Begins d left rest e) goes.0 b in
      exchange_ends x xs before d e goes.1.0 goes.1.2 received left rest sent goes.1.1 never
      (λ next follows then. served.begins d e goes.1.0 before received left rest sent goes.1.1 x.0 x.1 next goes.1.2 s asked follows then)
      (λ again one. rest_ends xs (before ++ x ∷ []) goes.1.0 goes.1.2 received rest goes.1.1 never again one goes.1.4)
      s (rest, e, asked) goes.1.3 goes.1.4

  -- whatever comes of a step
  pub step_ends : (exchanges before : List Exchange) (d : Doing) (received left rest sent : List ℕ) → IsByBytes end exchanges d left → Served d before received left sent → IsStep exchanges d left rest sent after_sent t says → Carries end (before ++ exchanges) received after_sent
  step_ends exchanges before d received left rest sent causes s step = first_ends exchanges before d step.begun step.turn received left rest sent causes s step.begins step.goes
