-- A legal run of the machine is one of its donor.
use Rattle.std.proofs.Common.{◌≡◌, ◌∙◌, ◌⊎◌, [], ◌∷◌, ◌++◌, List, true, arith, refl, sym, ap, subst, inl, inr}
use Rattle.std.specs.List.{AllByRecursion, Contains}
use Rattle.std.proofs.lemmas.List.Elements.{All-contains, Contains-append_left, Contains-append_right}
use Rattle.clone_turn.specs.Runs.{IsLegalRun, end_of}
use Rattle.clone_turn.proofs.EachLemmas.{all_of_each}
use Rattle.clone_calls.specs.declared.answer.DonorAnswer.{DonorAnswer}
use Rattle.clone_calls.specs.declared.call.DonorCall.{DonorCall}
use Rattle.clone_engine.specs.Acts.{Calls}
use Rattle.clone_engine.specs.Donor.{Donor}
use Rattle.clone_sides.specs.Trace as sides
use Rattle.clone_sides.specs.Trace.{Entry}
use Rattle.clone_machine.specs.declared.calls.JobAnswer.{JobAnswer}
use Rattle.clone_machine.specs.declared.calls.JobAnswer.TheVariants as answer
use Rattle.clone_machine.specs.declared.calls.JobCall.{JobCall}
use Rattle.clone_machine.specs.declared.calls.JobCall.TheVariants as call
use Rattle.clone_machine.specs.Running.{JobEntry, act_by, act_in, trace_of}
use Rattle.clone_machine.specs.Sharing.{Asks, SharedDonor, Steps}

-- A STEP is a call of the donor, or nothing is done to the donor.
pub record IsAsked (s : SharedDonor) (c : JobCall) (a : JobAnswer) (t : SharedDonor) : Type 0 where
  pub asked : DonorCall
  pub given : DonorAnswer
  pub call_is : c ≡ call.Donor asked
  pub answer_is : a ≡ answer.Donor given
  pub asks : Asks asked given s t

pub record IsAside (s : SharedDonor) (c : JobCall) (a : JobAnswer) (t : SharedDonor) : Type 0 where
  pub nothing : act_by c a t.donor ≡ []
  pub donor : t.donor ≡ s.donor
  pub flag : s.halted ≡ true → t.halted ≡ true

stayed : (s : SharedDonor) (c : JobCall) (a : JobAnswer) (t : SharedDonor) → act_by c a t.donor ≡ [] → t ≡ s → IsAside s c a t
stayed s c a t nothing is = record { nothing = nothing; donor = λ i. (is i).donor; flag = λ was. ap (λ (r : SharedDonor). r.halted) is ∙ was }

pub stepped : (s : SharedDonor) (c : JobCall) (a : JobAnswer) (t : SharedDonor) → Steps s c a t → IsAsked s c a t ⊎ IsAside s c a t
stepped s call.Halt answer.Halt t is = inr (record { nothing = refl; donor = λ i. (is i).donor; flag = λ _. ap (λ (r : SharedDonor). r.halted) is })
stepped s call.Halt (answer.Halted h) t is = absurd is
stepped s call.Halt (answer.Look n) t is = absurd is
stepped s call.Halt (answer.Donor given) t is = absurd is
stepped s call.Halted answer.Halt t is = absurd is
stepped s call.Halted (answer.Halted h) t is = inr (stayed s call.Halted (answer.Halted h) t refl is.1)
stepped s call.Halted (answer.Look n) t is = absurd is
stepped s call.Halted (answer.Donor given) t is = absurd is
stepped s call.Look answer.Halt t is = absurd is
stepped s call.Look (answer.Halted h) t is = absurd is
stepped s call.Look (answer.Look n) t is = inr (stayed s call.Look (answer.Look n) t refl is.1)
stepped s call.Look (answer.Donor given) t is = absurd is
stepped s (call.Donor asked) answer.Halt t is = absurd is
stepped s (call.Donor asked) (answer.Halted h) t is = absurd is
stepped s (call.Donor asked) (answer.Look n) t is = absurd is
stepped s (call.Donor asked) (answer.Donor given) t is = inl (record { asked = asked; given = given; call_is = refl; answer_is = refl; asks = is })

-- the run of the donor goes on behind the step
abbrev Begins : Donor → Donor → List Entry → Type 0
Begins d after acts =
    (rest : List Entry) → sides.Runs after rest
    → sides.Runs d (acts ++ rest) × (sides.end_of d (acts ++ rest) ≡ sides.end_of after rest)

begins : (s : SharedDonor) (c : JobCall) (a : JobAnswer) (t : SharedDonor) → Steps s c a t → Begins s.donor t.donor (act_by c a t.donor)
begins s c a t is = elim (stepped s c a t is) [
  | inl asked ↦ subst (λ (c : JobCall). Begins s.donor t.donor (act_by c a t.donor)) (sym asked.call_is)
      (subst (λ (a : JobAnswer). Begins s.donor t.donor (act_by (call.Donor asked.asked) a t.donor)) (sym asked.answer_is)
      (λ rest runs. ((asked.asks.acts, runs), refl)))
  | inr aside ↦ subst (λ (acts : List Entry). Begins s.donor t.donor acts) (sym aside.nothing)
      (subst (λ (d : Donor). Begins d t.donor []) aside.donor (λ rest runs. (runs, refl)))
]

pub run_is : (first : SharedDonor) (run : List JobEntry) → IsLegalRun Steps first run
    → sides.Runs first.donor (trace_of run) × (sides.end_of first.donor (trace_of run) ≡ (end_of first run).donor)
run_is first [] legal = (tt, refl)
run_is first (e ∷ es) legal =
    let rest = run_is e.after es legal.1 in
    let all = begins first e.call e.answer e.after legal.0 (trace_of es) rest.0 in
    (all.0, all.1 ∙ rest.1)

-- the step of an entry
legal_at : (first : SharedDonor) (before : List JobEntry) (e : JobEntry) (later : List JobEntry) → IsLegalRun Steps first (before ++ e ∷ later)
    → Steps (end_of first before) e.call e.answer e.after
legal_at first [] e later legal = legal.0
legal_at first (x ∷ xs) e later legal = legal_at x.after xs e later legal.1

answered : (s : SharedDonor) (asked : DonorCall) (a : JobAnswer) (t : SharedDonor) → Steps s (call.Donor asked) a t
    → (given : DonorAnswer) × (a ≡ answer.Donor given) × Asks asked given s t
answered s asked answer.Halt t is = absurd is
answered s asked (answer.Halted h) t is = absurd is
answered s asked (answer.Look n) t is = absurd is
answered s asked (answer.Donor given) t is = (given, refl, is)

pub asked_at : (first : SharedDonor) (before later : List JobEntry) (e : JobEntry) (asked : DonorCall) → IsLegalRun Steps first (before ++ e ∷ later) → e.call ≡ call.Donor asked
    → (given : DonorAnswer) × (e.answer ≡ answer.Donor given) × Asks asked given (end_of first before) e.after
asked_at first before later e asked legal is =
    let s = end_of first before in
    answered s asked e.answer e.after (subst (λ (c : JobCall). Steps s c e.answer e.after) is (legal_at first before e later legal))

-- WHAT A CALL DID stands in the donor's run
abbrev did : DonorCall → DonorAnswer → JobEntry → Entry
did asked given e = record { act = Calls asked given; after = e.after.donor }

abbrev StandsIn : List Entry → JobEntry → Type 0
StandsIn whole e = (asked : DonorCall) (given : DonorAnswer) → e.call ≡ call.Donor asked → e.answer ≡ answer.Donor given → Contains whole (did asked given e)

stands_alone : (e : JobEntry) → StandsIn (act_in e) e
stands_alone e asked given call_is answer_is =
    subst (λ (c : JobCall). Contains (act_by c e.answer e.after.donor) (did asked given e)) (sym call_is)
    (subst (λ (a : JobAnswer). Contains (act_by (call.Donor asked) a e.after.donor) (did asked given e)) (sym answer_is) (0, omega arith, refl))

all_stand : (run : List JobEntry) (whole : List Entry) → ((x : Entry) → Contains (trace_of run) x → Contains whole x) → AllByRecursion (StandsIn whole) run
all_stand [] whole within = tt
all_stand (e ∷ es) whole within = (
  λ asked given call_is answer_is. within _ (Contains-append_left (act_in e) (trace_of es) _ (stands_alone e asked given call_is answer_is)),
  all_stand es whole (λ x there. within x (Contains-append_right (act_in e) (trace_of es) x there)),
)

pub stands : (run : List JobEntry) (e : JobEntry) (asked : DonorCall) (given : DonorAnswer) → Contains run e → e.call ≡ call.Donor asked → e.answer ≡ answer.Donor given
    → Contains (trace_of run) (did asked given e)
stands run e asked given there =
    All-contains (StandsIn (trace_of run)) run e (all_of_each (StandsIn (trace_of run)) run (all_stand run (trace_of run) (λ x has. has))) there asked given

pub still_halted : (s : SharedDonor) (asked : JobCall) (given : JobAnswer) (t : SharedDonor) → s.halted ≡ true → Steps s asked given t → t.halted ≡ true
still_halted s c a t was is = elim (stepped s c a t is) [
  | inl asked ↦ asked.asks.flag ∙ was
  | inr aside ↦ aside.flag was
]
