-- A step on a stranger's connection, by which nobody acts in the session, leaves it.
use Rattle.std.proofs.Common.{ℕ, ◌≡◌, ◌≢◌, ◌∙◌, Option, refl, subst}
use Rattle.clone_session.specs.Cloning.{Session}
use Rattle.clone_session.specs.declared.caller.Caller.{Caller}
use Rattle.clone_serve.specs.Following.{call_in}
use Rattle.clone_serve.specs.declared.after.After.{After}
use Rattle.clone_serve.specs.declared.after.After.TheVariants.{Asks, Ends}
use Rattle.clone_serve.specs.declared.doing.Doing.{Doing}
use Rattle.clone_serve.specs.declared.doing.Doing.TheVariants as doing
use Rattle.clone_serve.specs.declared.doing.Execution.{Execution}
use Rattle.clone_serve.specs.declared.doing.Work.{Work}
use Rattle.clone_serve.specs.declared.doing.Work.TheVariants.{Archive, Claim, Read, Weigh}
use Rattle.clone_serve.specs.declared.turn.ServeAnswer.{ServeAnswer}
use Rattle.clone_network.specs.Connections.{Connection, StepsEnd, reaches_task, sent_behind}
use Rattle.clone_network.specs.declared.donor_step.DonorStep.{DonorStep}
use Rattle.clone_engine.specs.Donor.{Donor}
use Rattle.clone_told.specs.Told.{gives}
use Rattle.clone_ending.proofs.DonorLemmas.{goes_in}
use Rattle.clone_ending.proofs.Stepping.{Comes, Hands, goes_so}
use Rattle.clone_paired.specs.Own.{LeavesIt, own_session}
use Rattle.clone_paired.specs.Strangers.{ServesOther}
use Rattle.clone_paired.proofs.DonorOthers.{call_own}
use Rattle.clone_paired.proofs.LateWork.{IsBound, Next, NextOf, work_by}

module _ (number : ℕ) where
  abbrev Own : Donor → Option Session
  Own d = own_session number d.cloning

  -- each call within an EXECUTE of another session leaves this one
  work_leaves : (run : Execution) (what : Work) → run.caller.session ≢ number → LeavesIt number (call_in run what)
  work_leaves run Claim other = other
  work_leaves run (Weigh chunk) other = tt
  work_leaves run (Read place again) other = other
  work_leaves run (Archive place limit) other = tt

  -- what is asked next is of another session too, and so is what its end does then
  abbrev Of : Caller → Type 0
  Of caller = caller.session ≢ number

  bound : IsBound Of (ServesOther number)
  bound = record { ready = λ caller of. tt; serving = λ run what of. of; over = tt }

  module _ (own : Option Session) where
    abbrev Before : Donor → Execution → Work → Type 0
    Before u run what = (run.caller.session ≢ number) × (Own u ≡ own)

    abbrev Then : Donor → Doing → ServeAnswer → Type 0
    Then u now spoke = (Own u ≡ own) × ServesOther number now

    comes : (u : Donor) (next : After) → Own u ≡ own → Next Of (ServesOther number) bound next → Comes Before Then u next
    comes u (Asks run what) same other = (other, same)
    comes u (Ends next sends spoke) same other = (same, other)

    hands : Hands Before Then
    hands = record {
      next = λ d u run what given next before acts is. comes u next (call_own number d u (call_in run what) given (work_leaves run what before.0) acts.does ∙ before.1) (subst (NextOf Of (ServesOther number) bound) is (work_by Of (ServesOther number) bound run what given before.0));
      fails = λ d u run what given before acts. (call_own number d u (call_in run what) given (work_leaves run what before.0) acts.does ∙ before.1, tt);
    }

  -- an EXECUTE of another session
  pub serving_leaves : (d t : Donor) (at after : Connection) (answer : DonorStep) (e : StepsEnd gives d t at after answer) (run : Execution) (what : Work) → at.doing ≡ doing.Serving run what → run.caller.session ≢ number → (Own t ≡ Own d) × ServesOther number e.serves.doing
  serving_leaves d t at after answer e run what is other = goes_so (Before (Own d)) (Then (Own d)) (hands (Own d)) e.serves.steps.exchanges t e.serves.doing e.says e.serves.sent d run what (sent_behind (reaches_task at) at.to_task) (other, refl) (goes_in d t at after answer e run what is) e.serves.steps.answers
