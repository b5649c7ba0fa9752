-- What a network keeps, while one of its connections takes a step and while all are given up.
use Rattle.std.proofs.Common.{ℕ, ◌≡◌, ◌∙◌, ◌≤◌, List, Some, false, length, set, slice_get, sym, ap, subst}
use Rattle.std.specs.List.{AllByRecursion}
use Rattle.std.proofs.lemmas.List.{length-set}
use Rattle.clone_calls.specs.declared.answer.DonorAnswer.{DonorAnswer}
use Rattle.clone_calls.specs.declared.call.DonorCall.{DonorCall}
use Rattle.clone_network.specs.Connections.{Connection, RestsEnd, StepsBy, is_open}
use Rattle.clone_network.specs.Networks.{AreEnded, HasIts, Network, Seat, StepsDonor, with_connection}
use Rattle.clone_network.specs.declared.donor_step.DonorStep.{DonorStep}
use Rattle.clone_network.proofs.EndedLemmas.{ended_set}

abbrev pub IsKept : List Connection → List Seat → ℕ → Type 0
IsKept cs seats first = AllByRecursion (HasIts (length cs)) seats × AreEnded cs 0 first × (first ≤ length cs)

-- an end whose loop has ended stays so
pub still_ended : {A : Type 0} (gives : A → DonorCall → DonorAnswer → A → Type 0) (a b : A) (at new : Connection) (answer : DonorStep) → StepsBy (is_open at) gives a b at new answer → is_open at ≡ false → is_open new ≡ false
still_ended gives a b at new answer steps closed =
    let rests : RestsEnd a b at new answer = rw closed at steps in
    ap is_open rests.is ∙ closed

pub kept_set : (cs : List Connection) (seats : List Seat) (first number : ℕ) (at new : Connection) → slice_get cs number ≡ Some at → (is_open at ≡ false → is_open new ≡ false) → IsKept cs seats first → IsKept (set cs number new) seats first
kept_set cs seats first number at new here still kept =
    let long = sym (length-set cs number new) in (
      subst (λ n. AllByRecursion (HasIts n) seats) long kept.0,
      ended_set cs number at new 0 first here still kept.1,
      subst (λ n. first ≤ n) long kept.2,
    )

pub steps_at : {A : Type 0} (gives : A → DonorCall → DonorAnswer → A → Type 0) (a b : A) (number : ℕ) (n m : Network) (at after : Connection) (answer : DonorStep) → slice_get n.connections number ≡ Some at → StepsBy (is_open at) gives a b at after answer
    → m ≡ with_connection number after n → StepsDonor gives a b number n m answer
steps_at gives a b number n m at after answer here steps is = rw here (after, steps, is)
