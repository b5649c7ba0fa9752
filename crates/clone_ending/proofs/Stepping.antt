-- WITHIN AN EXECUTE a step goes from call to call: what holds before the first of them, and is handed on by each, holds at
-- the step's end.
use Rattle.std.proofs.Common.{ℕ, ◌≡◌, ◌∙◌, List, [], ◌∷◌, Some, inl, inr, sym, subst}
use Rattle.clone_calls.specs.declared.answer.DonorAnswer.{DonorAnswer}
use Rattle.clone_calls.specs.declared.call.DonorCall.{DonorCall}
use Rattle.clone_serve.specs.Following as following
use Rattle.clone_serve.specs.Following.{call_in}
use Rattle.clone_serve.specs.Serving.{doing_after, turn_after}
use Rattle.clone_serve.specs.Stepping.{GivesAll, Goes}
use Rattle.clone_serve.specs.Telling.{Exchange}
use Rattle.clone_serve.specs.declared.after.After.{After}
use Rattle.clone_serve.specs.declared.after.After.TheVariants.{Asks, Ends}
use Rattle.clone_serve.specs.declared.doing.Doing.{Doing}
use Rattle.clone_serve.specs.declared.doing.Doing.TheVariants.{Over, Serving}
use Rattle.clone_serve.specs.declared.doing.Execution.{Execution}
use Rattle.clone_serve.specs.declared.doing.Work.{Work}
use Rattle.clone_serve.specs.declared.turn.ServeAnswer.{ServeAnswer}
use Rattle.clone_serve.specs.declared.turn.ServeAnswer.TheVariants.{NoMemory}
use Rattle.clone_serve.specs.declared.turn.ServeTurn.{ServeTurn}
use Rattle.clone_serve.specs.declared.turn.ServeTurn.TheVariants.{Ask, Done}
use Rattle.clone_engine.specs.Acts.{CloneActs}
use Rattle.clone_engine.specs.Donor.{Donor}
use Rattle.clone_told.specs.Told.{gives}

-- a step that has its answer asks no more
pub at_end : (exchanges : List Exchange) (u t : Donor) (d after : Doing) (turn : ServeTurn) (so sn : List ℕ) (given says : ServeAnswer) → turn ≡ Done given → Goes exchanges d turn so sn after says → GivesAll gives u exchanges t → (t ≡ u) × (after ≡ d) × (says ≡ given)
at_end [] u t d after turn so sn given says is goes answers =
    let same : Done says ≡ Done given = sym goes.0 ∙ is in
    let one : says ≡ given = cc in
    (answers, goes.2, one)
at_end (exchange ∷ exchanges) u t d after turn so sn given says is goes answers =
    let wrong : Ask exchange.0 ≡ Done given = sym goes.0 ∙ is in
    absurd (cc)

-- WHAT IS HANDED ON from call to call, and what holds at the end
module _ (Before : Donor → Execution → Work → Type 0) (Then : Donor → Doing → ServeAnswer → Type 0) where
  abbrev pub Comes : Donor → After → Type 0
  Comes u (Asks run work) = Before u run work
  Comes u (Ends doing sends says) = Then u doing says

  -- each call hands it on
  pub record Hands : Type 0 where
    pub next : (d u : Donor) (run : Execution) (work : Work) (given : DonorAnswer) (next : After) → Before d run work → CloneActs (call_in run work) given d u → following.after (Serving run work) given ≡ Some next → Comes u next
    pub fails : (d u : Donor) (run : Execution) (work : Work) (given : DonorAnswer) → Before d run work → CloneActs (call_in run work) given d u → Then u Over NoMemory

  -- so does the rest of a step
  abbrev Rest : List Exchange → Donor → Doing → ServeAnswer → List ℕ → Type 0
  Rest exchanges t after says sn = (d : Donor) (run : Execution) (work : Work) (so : List ℕ) → Before d run work → Goes exchanges (Serving run work) (Ask (call_in run work)) so sn after says → GivesAll gives d exchanges t → Then t after says

  on_next : (exchanges : List Exchange) (u t : Donor) (next : After) (mid after : Doing) (turn : ServeTurn) (so sn : List ℕ) (says : ServeAnswer) → Rest exchanges t after says sn → Comes u next → mid ≡ doing_after next → turn ≡ turn_after next → Goes exchanges mid turn so sn after says → GivesAll gives u exchanges t → Then t after says
  on_next exchanges u t (Asks run work) mid after turn so sn says rest comes doing turns goes answers =
      rest u run work so comes (subst (λ (d : Doing). Goes exchanges d (Ask (call_in run work)) so sn after says) doing (subst (λ (x : ServeTurn). Goes exchanges mid x so sn after says) turns goes)) answers
  on_next exchanges u t (Ends d sends given) mid after turn so sn says rest comes doing turns goes answers =
      let end = at_end exchanges u t mid after turn so sn given says turns goes answers in
      let here : Then u after says = subst (λ (x : ServeAnswer). Then u after x) (sym end.2) (subst (λ (x : Doing). Then u x given) (sym (end.1 ∙ doing)) comes) in
      subst (λ (x : Donor). Then x after says) (sym end.0) here

  pub goes_so : Hands → (exchanges : List Exchange) (t : Donor) (after : Doing) (says : ServeAnswer) (sn : List ℕ) → Rest exchanges t after says sn
  goes_so hands [] t after says sn d run work so before goes answers =
      let wrong : Ask (call_in run work) ≡ Done says = goes.0 in
      absurd (cc)
  goes_so hands (exchange ∷ exchanges) t after says sn d run work so before goes answers =
      let same : Ask (call_in run work) ≡ Ask exchange.0 = goes.0 in
      let asked : exchange.0 ≡ call_in run work = cc in
      let acts : CloneActs (call_in run work) exchange.1 d answers.0 = subst (λ (x : DonorCall). CloneActs x exchange.1 d answers.0) asked answers.1 in
      elim (goes.1.3) [
        | inl on ↦
            on_next exchanges answers.0 t on.0 goes.1.0 after goes.1.2 goes.1.1 sn says (goes_so hands exchanges t after says sn) (hands.next d answers.0 run work exchange.1 on.0 before acts on.1) on.2.doing on.2.turns goes.1.4 answers.2
        | inr fails ↦
            let end = at_end exchanges answers.0 t goes.1.0 after goes.1.2 goes.1.1 sn NoMemory says fails.says goes.1.4 answers.2 in
            let here : Then answers.0 after says = subst (λ (x : ServeAnswer). Then answers.0 after x) (sym end.2) (subst (λ (x : Doing). Then answers.0 x NoMemory) (sym (end.1 ∙ fails.doing)) (hands.fails d answers.0 run work exchange.1 before acts)) in
            subst (λ (x : Donor). Then x after says) (sym end.0) here
      ]
