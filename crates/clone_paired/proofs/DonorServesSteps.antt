-- WITHIN AN EXECUTE a step goes from call to call, and sends a frame at its end or none: what holds before the first call,
-- and is handed on by each, holds at the end, with what is sent.
use Rattle.std.proofs.Common.{ℕ, ◌≡◌, ◌∙◌, List, [], ◌∷◌, Option, None, Some, inl, inr, sym, subst}
use Rattle.clone_wire.specs.declared.frame.Frame.{Frame}
use Rattle.clone_calls.specs.declared.answer.DonorAnswer.{DonorAnswer}
use Rattle.clone_calls.specs.declared.call.DonorCall.{DonorCall}
use Rattle.clone_serve.specs.Following as following
use Rattle.clone_serve.specs.Following.{call_in}
use Rattle.clone_serve.specs.Serving.{Follows, GoesOn, WasSent, with_frame}
use Rattle.clone_serve.specs.Stepping.{GivesAll, Goes}
use Rattle.clone_serve.specs.Telling.{Exchange}
use Rattle.clone_serve.specs.declared.after.After.{After}
use Rattle.clone_serve.specs.declared.after.After.TheVariants.{Asks, Ends}
use Rattle.clone_serve.specs.declared.doing.Doing.{Doing}
use Rattle.clone_serve.specs.declared.doing.Doing.TheVariants.{Over, Serving}
use Rattle.clone_serve.specs.declared.doing.Execution.{Execution}
use Rattle.clone_serve.specs.declared.doing.Work.{Work}
use Rattle.clone_serve.specs.declared.turn.ServeAnswer.{ServeAnswer}
use Rattle.clone_serve.specs.declared.turn.ServeAnswer.TheVariants.{NoMemory}
use Rattle.clone_serve.specs.declared.turn.ServeTurn.{ServeTurn}
use Rattle.clone_serve.specs.declared.turn.ServeTurn.TheVariants.{Ask, Done}
use Rattle.clone_engine.specs.Answering.{Answered}
use Rattle.clone_engine.specs.Donor.{Donor}
use Rattle.clone_told.specs.Told.{gives}

-- a step that has its answer asks no more
pub record AtEnd (u t : Donor) (mid after : Doing) (so sn : List ℕ) (given says : ServeAnswer) : Type 0 where
  pub donor : t ≡ u
  pub doing : after ≡ mid
  pub sent : sn ≡ so
  pub says_is : says ≡ given

pub at_end : (exchanges : List Exchange) (u t : Donor) (mid after : Doing) (turn : ServeTurn) (so sn : List ℕ) (given says : ServeAnswer) → turn ≡ Done given → Goes exchanges mid turn so sn after says → GivesAll gives u exchanges t → AtEnd u t mid after so sn given says
at_end [] u t mid after turn so sn given says is goes answers =
    let same : Done says ≡ Done given = sym goes.0 ∙ is in
    record { donor = answers; doing = goes.2; sent = goes.1; says_is = cc (same) }
at_end (exchange ∷ exchanges) u t mid after turn so sn given says is goes answers =
    let wrong : Ask exchange.0 ≡ Done given = sym goes.0 ∙ is in
    absurd (cc (wrong))

module _ (Before : Donor → Execution → Work → Type 0) (Then : Donor → Option Frame → Doing → ServeAnswer → Type 0) where
  abbrev pub Comes : Donor → After → Type 0
  Comes u (Asks run work) = Before u run work
  Comes u (Ends doing sends says) = WasSent sends → Then u sends doing says

  -- each call hands it on, and so it is where memory runs out after one
  pub record Hands : Type 0 where
    pub next : (d u : Donor) (run : Execution) (work : Work) (given : DonorAnswer) (next : After) → Before d run work → Answered (call_in run work) given d u → following.work_done run work given ≡ Some next → Comes u next
    pub fails : (d u : Donor) (run : Execution) (work : Work) (given : DonorAnswer) → Before d run work → Answered (call_in run work) given d u → Then u None Over NoMemory

  pub record Ended (t : Donor) (so sn : List ℕ) (after : Doing) (says : ServeAnswer) : Type 0 where
    pub sends : Option Frame
    pub sent : sn ≡ with_frame sends so
    pub comes : Then t sends after says

  module _ (hands : Hands) (t : Donor) (after : Doing) (says : ServeAnswer) (sn : List ℕ) where
    -- so does the rest of a step
    abbrev Rest : List Exchange → Type 0
    Rest exchanges = (d : Donor) (run : Execution) (work : Work) (so : List ℕ) → Before d run work → Goes exchanges (Serving run work) (Ask (call_in run work)) so sn after says → GivesAll gives d exchanges t → Ended t so sn after says

    on_next : (exchanges : List Exchange) (u : Donor) (next : After) (mid : Doing) (turn : ServeTurn) (so st : List ℕ) → Rest exchanges → Comes u next → Follows next so st mid turn → Goes exchanges mid turn st sn after says → GivesAll gives u exchanges t → Ended t so sn after says
    on_next exchanges u (Asks run work) mid turn so st rest comes f goes answers =
        rest u run work so comes
        (subst (λ (b : List ℕ). Goes exchanges (Serving run work) (Ask (call_in run work)) b sn after says) f.sends
        (subst (λ (y : Doing). Goes exchanges y (Ask (call_in run work)) st sn after says) f.doing
        (subst (λ (y : ServeTurn). Goes exchanges mid y st sn after says) f.turns goes))) answers
    on_next exchanges u (Ends doing sends given) mid turn so st rest comes f goes answers =
        let e = at_end exchanges u t mid after turn st sn given says f.turns goes answers in
        let here : Then u sends doing given = comes f.is in
        record {
          sends = sends;
          sent = e.sent ∙ f.sends;
          comes = subst (λ (y : Donor). Then y sends after says) (sym e.donor) (subst (λ (y : Doing). Then u sends y says) (sym (e.doing ∙ f.doing)) (subst (λ (y : ServeAnswer). Then u sends doing y) (sym e.says_is) here));
        }

    pub goes_sends : (exchanges : List Exchange) → Rest exchanges
    goes_sends [] d run work so before goes answers =
        let wrong : Ask (call_in run work) ≡ Done says = goes.0 in
        absurd (cc (wrong))
    goes_sends (exchange ∷ exchanges) d run work so before (ask, (mid, st, turn, on, more)) (u, gave, answers) = by (goes_sends exchanges) on
      where
        same : call_in run work ≡ exchange.0
        same = cc (ask)

        acts : Answered (call_in run work) exchange.1 d u
        acts = subst (λ (q : DonorCall). Answered q exchange.1 d u) (sym same) gave.does

        by : Rest exchanges → GoesOn (Serving run work) exchange.1 so st mid turn → Ended t so sn after says
        by rest (inl (next, is, f)) = on_next exchanges u next mid turn so st rest (hands.next d u run work exchange.1 next before acts is) f more answers
        by rest (inr fails) =
            let e = at_end exchanges u t mid after turn st sn NoMemory says fails.says more answers in
            let here : Then u None Over NoMemory = hands.fails d u run work exchange.1 before acts in
            record {
              sends = None;
              sent = e.sent ∙ fails.sends;
              comes = subst (λ (y : Donor). Then y None after says) (sym e.donor) (subst (λ (y : Doing). Then u None y says) (sym (e.doing ∙ fails.doing)) (subst (λ (y : ServeAnswer). Then u None Over y) (sym e.says_is) here));
            }
