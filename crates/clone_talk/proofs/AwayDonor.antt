-- A step of a donor's end, where a clone is turned away.
use Rattle.std.proofs.Common.{ℕ, ◌≡◌, ◌≢◌, ◌∙◌, ◌⊎◌, Bool, List, Option, None, Some, sym, ap, subst, inl, inr}
use Rattle.std.specs.Prelude.{MatchOption, slice_get}
use Rattle.std.proofs.lemmas.Bool.{cases_eq}
use Rattle.clone_session.specs.Cloning.{Session}
use Rattle.clone_recipient.specs.Receptions.{Reception}
use Rattle.clone_serve.specs.declared.turn.ServeAnswer.TheVariants as says
use Rattle.clone_network.specs.Connections.{Connection, RestsEnd, StepsBy, is_open}
use Rattle.clone_network.specs.Networks.{Network, StepsDonor, with_connection}
use Rattle.clone_network.specs.declared.donor_step.DonorStep.{DonorStep}
use Rattle.clone_network.specs.declared.donor_step.DonorStep.TheVariants as step
use Rattle.clone_engine.specs.Donor.{Donor}
use Rattle.clone_told.specs.Told.{gives}
use Rattle.clone_paired.specs.Lines.{connection_of}
use Rattle.clone_paired.specs.Paired.{IsPaired}
use Rattle.clone_paired.proofs.TaskSends.{set_same}
use Rattle.clone_talk.specs.Talking.{IsTurnedAway}
use Rattle.clone_talk.proofs.Away.{emptied, there_other, with_both}

-- a step on the connection that was found, if one was
abbrev OnFound : Donor → Donor → ℕ → Network → Network → DonorStep → Option Connection → Type 0
OnFound d t number n m answer found = MatchOption found ((t ≡ d) × (m ≡ n) × (answer ≡ step.Served says.Idle)) (λ (at : Connection). (after : Connection) × StepsBy (is_open at) gives d t at after answer × (m ≡ with_connection number after n))

module _ (session : Option Session) (r : Reception) (n : Network) (w : IsTurnedAway session r n) where
  abbrev pub less : Network
  less = with_connection w.number (emptied w.at) n

  module _ (d t : Donor) (m : Network) (number : ℕ) (answer : DonorStep) where
    -- on another connection than task 0's it is the same without what lies unread there
    pub donor_less : number ≢ w.number → StepsDonor gives d t number n m answer → StepsDonor gives d t number less (with_connection w.number (emptied w.at) m) answer
    donor_less apart s = subst (OnFound d t number less (with_connection w.number (emptied w.at) m) answer) (sym (there_other n w.number number (emptied w.at) apart)) (by (slice_get n.connections number) s)
      where
        by : (found : Option Connection) → OnFound d t number n m answer found → OnFound d t number less (with_connection w.number (emptied w.at) m) answer found
        by None (same, stays, idle) = (same, ap (with_connection w.number (emptied w.at)) stays, idle)
        by (Some at) (after, steps, is) = (after, steps, ap (with_connection w.number (emptied w.at)) is ∙ sym (with_both n w.number number (emptied w.at) after apart))

    -- and on task 0's nothing is done
    pub donor_over : number ≡ w.number → StepsDonor gives d t number n m answer → (t ≡ d) × (m ≡ n) × (answer ≡ step.Served says.Idle)
    donor_over same s = at_found (subst (OnFound d t number n m answer) found s)
      where
        found : slice_get n.connections number ≡ Some w.at
        found = ap (slice_get n.connections) same ∙ w.there

        at_found : OnFound d t number n m answer (Some w.at) → (t ≡ d) × (m ≡ n) × (answer ≡ step.Served says.Idle)
        at_found (after, steps, is) =
            let rests : RestsEnd d t w.at after answer = subst (λ (b : Bool). StepsBy b gives d t w.at after answer) w.over steps in
            (rests.donor, is ∙ ap (λ (c : Connection). with_connection number c n) rests.is ∙ ap (λ (cs : List Connection). record n { connections = cs }) (set_same n.connections number w.at found), rests.answers)

    -- the clone is turned away still
    pub donor_stays : number ≢ w.number → StepsDonor gives d t number n m answer → (now : Option Session) → IsPaired now r (with_connection w.number (emptied w.at) m) → IsTurnedAway now r m
    donor_stays apart s now paired = by (slice_get n.connections number) s
      where
        turned : connection_of m 0 ≡ connection_of n 0 → slice_get m.connections w.number ≡ slice_get n.connections w.number → IsTurnedAway now r m
        turned seats there = record { number = w.number; at = w.at; has = seats ∙ w.has; there = there ∙ w.there; over = w.over; frames = w.frames; refusals = w.refusals; unread = w.unread; but = paired }

        by : (found : Option Connection) → OnFound d t number n m answer found → IsTurnedAway now r m
        by None (same, stays, idle) = turned (ap (λ (x : Network). connection_of x 0) stays) (ap (λ (x : Network). slice_get x.connections w.number) stays)
        by (Some at) (after, steps, is) = turned (ap (λ (x : Network). connection_of x 0) is) (ap (λ (x : Network). slice_get x.connections w.number) is ∙ there_other n number w.number after (λ same. apart (sym same)))

-- A STEP OF THE DONOR on task 0's connection does nothing, and on another it is what it is without
-- what lies unread for task 0.
pub away_apart : (session : Option Session) (r : Reception) (d t : Donor) (n m : Network) (number : ℕ) (answer : DonorStep) → (w : IsTurnedAway session r n) → StepsDonor gives d t number n m answer → ((t ≡ d) × (m ≡ n)) ⊎ ((to : Network) × StepsDonor gives d t number (with_connection w.number (emptied w.at) n) to answer × (w.number ≢ number) × ((now : Option Session) → IsPaired now r to → IsTurnedAway now r m))
away_apart session r d t n m number answer w s = by (cases_eq number w.number)
  where
    by : (number ≡ w.number) ⊎ (number ≢ w.number) → ((t ≡ d) × (m ≡ n)) ⊎ ((to : Network) × StepsDonor gives d t number (with_connection w.number (emptied w.at) n) to answer × (w.number ≢ number) × ((now : Option Session) → IsPaired now r to → IsTurnedAway now r m))
    by (inl same) = (let over = donor_over session r n w d t m number answer same s in inl (over.0, over.1))
    by (inr apart) = inr (with_connection w.number (emptied w.at) m, donor_less session r n w d t m number answer apart s, λ same. apart (sym same), donor_stays session r n w d t m number answer apart s)
