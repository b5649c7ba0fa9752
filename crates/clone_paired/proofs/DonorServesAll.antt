-- A step of a donor's end within an EXECUTE keeps a clone paired.
use Rattle.std.proofs.Common.{ℕ, ◌≡◌, ◌≢◌, ◌∙◌, List, Bool, true, false, if◌then◌else◌, Option, None, Some, length, refl, sym, ap, subst}
use Rattle.std.specs.Prelude.{slice_get, not, ◌&&◌, ◌||◌}
use Rattle.clone_session.specs.Cloning.{Session}
use Rattle.clone_serve.specs.Serving.{Begins}
use Rattle.clone_serve.specs.declared.doing.Doing.{Doing}
use Rattle.clone_serve.specs.declared.doing.Doing.TheVariants as doing
use Rattle.clone_serve.specs.declared.doing.Execution.{Execution}
use Rattle.clone_serve.specs.declared.doing.Place.{Place}
use Rattle.clone_serve.specs.declared.doing.Work.{Work}
use Rattle.clone_serve.specs.declared.doing.Work.TheVariants.{Archive, Claim, Read, Weigh}
use Rattle.clone_recipient.specs.Receptions.{Reception}
use Rattle.clone_network.specs.Connections.{Connection, StepsEnd, finds_loss, is_idle, is_open, is_serving, reaches_task, sent_behind, unread_then, was_refused}
use Rattle.clone_network.specs.Networks.{Network, StepsDonor, with_connection}
use Rattle.clone_network.specs.declared.donor_step.DonorStep.{DonorStep}
use Rattle.clone_engine.specs.Donor.{Donor}
use Rattle.clone_told.specs.Told.{gives}
use Rattle.clone_ending.proofs.DonorLemmas.{goes_in, serving_is}
use Rattle.clone_view.specs.Donors.{core_of, rest_at}
use Rattle.clone_view.specs.Views.{list_in}
use Rattle.clone_paired.specs.Blocks.{Ascends}
use Rattle.clone_paired.specs.Calm.{IsInService}
use Rattle.clone_paired.specs.Lines.{connection_of}
use Rattle.clone_paired.specs.Own.{own_session}
use Rattle.clone_paired.specs.Paired.{IsPaired, IsTalking}
use Rattle.clone_paired.proofs.DonorAwaiting.{unread_told}
use Rattle.clone_paired.proofs.DonorFree.{keeps_paired}
use Rattle.clone_paired.proofs.DonorServes.{doing_is, session_there}
use Rattle.clone_paired.proofs.DonorServesEnds.{reading_talks}
use Rattle.clone_paired.proofs.DonorServesHands.{Before, Talks, Then, at_doing, hands, left_on}
use Rattle.clone_paired.proofs.DonorServesSteps.{Ended, goes_sends}
use Rattle.clone_paired.proofs.DonorTurns.{first, same_network, there_at, x}
use Rattle.clone_paired.proofs.LateSteps.{late_same}
use Rattle.clone_paired.proofs.Linked.{Linked}

abbrev IsServingAt : Connection → Type 0
IsServingAt at = is_serving at.doing ≡ true

module _ (d t : Donor) (r : Reception) (n : Network) (number : ℕ) (answer : DonorStep) where
  abbrev session : Option Session
  session = own_session r.table.session d.cloning

  abbrev now : Option Session
  now = own_session r.table.session t.cloning

  -- ---- a task's connection

  module _ (tasks : length n.seats ≡ r.table.count) (talks : IsTalking session r n) (ascend : Ascends session) (k : ℕ) (has : connection_of n k ≡ Some number) (at after : Connection) (there : slice_get n.connections number ≡ Some at) (live : is_open at ≡ true) (serving : is_serving at.doing ≡ true) (e : StepsEnd gives d t at after answer) where
    abbrev here : Linked session r n talks.lines talks.known (first session r n tasks talks k number has).rounds k
    here = x session r n tasks talks k number has

    at_is : here.at ≡ at
    at_is = cc (there_at session r n tasks talks k number has, there)

    live_here : is_open here.at ≡ true
    live_here = ap is_open at_is ∙ live

    finds : finds_loss at e.says ≡ (at.cut && not (was_refused e.says))
    finds = ap (λ (b : Bool). if b then at.cut && not (was_refused e.says) else is_idle e.says && (at.cut || not at.held)) serving

    module _ (run : Execution) where
      serves : (what : Work) → at.doing ≡ doing.Serving run what → here.at.doing ≡ doing.Serving run what
      serves what is = ap (λ (c : Connection). c.doing) at_is ∙ is

      same_doing : (d0 : Doing) → at.doing ≡ d0 → at_doing r n tasks k number has at there live d0 ≡ at
      same_doing d0 is = (λ i. record at { doing = (sym is) i })

      reads_first : (place : Place) (again : Bool) → at.doing ≡ doing.Serving run (Read place again) → Talks r n tasks k number has at there live d (doing.Serving run (Read place false))
      reads_first place again is =
          let f = session_there session r n tasks talks k number has live_here run (Read place again) (serves (Read place again) is) (rest_at (list_in session) place) refl in
          record {
            ascend = ascend;
            talks = subst (λ (o : Option Session). IsTalking o r (with_connection number (record at { doing = doing.Serving run (Read place false) }) n)) (sym f.1) (again_talks f.0 f.1);
          }
        where
          again_talks : (s : Session) → session ≡ Some s → IsTalking (Some s) r (with_connection number (record at { doing = doing.Serving run (Read place false) }) n)
          again_talks s own =
              let own_talks : IsTalking (Some s) r n = subst (λ (o : Option Session). IsTalking o r n) own talks in
              let same : (x (Some s) r n tasks own_talks k number has).at ≡ at = cc (there_at (Some s) r n tasks own_talks k number has, there) in
              subst (λ (c : Connection). IsTalking (Some s) r (with_connection number (record c { doing = doing.Serving run (Read place false) }) n)) same
              (reading_talks s r n tasks own_talks k number has (ap is_open same ∙ live) run place again false (ap (λ (c : Connection). c.doing) same ∙ is))

      -- between two steps nothing else is in service
      never : (what : Work) → at.doing ≡ doing.Serving run what → core_of (list_in session) (doing.Serving run what) ≡ None → ⊥
      never what is none =
          let own = ap (core_of (list_in session)) (sym (doing_is session r n tasks talks k number has live_here run what (serves what is))) ∙ here.seat.core in
          cc (own, none)

      before : (what : Work) → at.doing ≡ doing.Serving run what → Before r n tasks k number has at there live d run what
      before Claim is = record { ascend = ascend; talks = subst (λ (m : Network). IsTalking session r m) (sym (ap (λ (c : Connection). with_connection number c n) (same_doing (doing.Serving run Claim) is) ∙ same_network n number at there)) talks }
      before (Weigh chunk) is = absurd (never (Weigh chunk) is refl)
      before (Read place again) is = reads_first place again is
      before (Archive place limit) is = absurd (never (Archive place limit) is refl)

      module _ (what : Work) (is : at.doing ≡ doing.Serving run what) where
        abbrev old : List ℕ
        old = sent_behind (reaches_task at) at.to_task

        comes : Ended (Before r n tasks k number has at there live) (Then r n tasks k number has at there live) t old e.serves.sent e.serves.doing e.says
        comes = goes_sends (Before r n tasks k number has at there live) (Then r n tasks k number has at there live) (hands r n tasks k number has at there live) t e.serves.doing e.says e.serves.sent e.serves.steps.exchanges d run what old (before what is) (goes_in d t at after answer e run what is) e.serves.steps.answers

        left : e.serves.left ≡ at.to_donor
        left = (subst (λ (y : Doing). Begins y at.to_donor e.serves.left e.serves.steps.is.begun e.serves.steps.is.turn) is e.serves.steps.is.begins).1

        after_is : after ≡ left_on r n tasks k number has at there live comes.sends e.serves.doing e.says
        after_is =
            e.is ∙ ap (λ (c : Connection). record c { found_lost = finds_loss at e.says }) e.serves.is
            ∙ (λ i. record at { to_donor = left i; to_task = unread_then (reaches_task at) at.to_task (comes.sent i); doing = e.serves.doing; found_lost = finds i })
            ∙ (λ i. record at { to_task = unread_told (reaches_task at) comes.sends at.to_task i; doing = e.serves.doing; found_lost = at.cut && not (was_refused e.says) })

        served_by : IsTalking now r (with_connection number after n)
        served_by = subst (λ (c : Connection). IsTalking now r (with_connection number c n)) (sym after_is) comes.comes

    pub served_task : IsTalking now r (with_connection number after n)
    served_task = let some = serving_is at.doing serving in served_by some.0 some.1 some.2

pub donor_serves : (d t : Donor) (r : Reception) (n m : Network) (task number : ℕ) (answer : DonorStep) → IsPaired (own_session r.table.session d.cloning) r n → StepsDonor gives d t number n m answer → IsInService n number → connection_of n task ≡ Some number → Ascends (own_session r.table.session d.cloning) → IsPaired (own_session r.table.session t.cloning) r m
donor_serves d t r n m task number answer paired steps serving has ascend = keeps_paired d t r n number answer IsServingAt (λ at after there live on e talks. served_task d t r n number answer paired.tasks talks ascend task has at after there live on e) paired m serving steps
