-- An end that serves an EXECUTE never rests.
use Rattle.std.specs.Prelude.{slice_get, MatchOption}
use Rattle.std.proofs.Common.{ℕ, ◌≡◌, ◌∙◌, arith, Bool, true, false, Option, None, Some, refl, sym, ap, subst}
use Rattle.std.specs.Option.{ForSome}
use Rattle.std.proofs.lemmas.Bool.{both_ways}
use Rattle.clone_snapshot.specs.Snaps.{IsSnap}
use Rattle.clone_session.specs.Cloning.{IsCloning, Session}
use Rattle.clone_serve.specs.declared.doing.Doing.TheVariants as doing
use Rattle.clone_serve.specs.declared.doing.Execution.{Execution}
use Rattle.clone_serve.specs.declared.doing.Work.{Work}
use Rattle.clone_serve.specs.declared.doing.Work.TheVariants as work
use Rattle.clone_serve.specs.declared.turn.ServeAnswer.{ServeAnswer}
use Rattle.clone_serve.specs.declared.turn.ServeAnswer.TheVariants as says
use Rattle.clone_network.specs.Connections.{Connection, StepsBy, StepsEnd, finds_loss, is_idle, is_open, is_serving, reaches_task, said_as, sent_behind}
use Rattle.clone_network.specs.declared.donor_step.DonorStep.TheVariants as step
use Rattle.clone_network.specs.Networks.{Network, with_connection}
use Rattle.clone_engine.specs.Donor.{Donor, IsDonor}
use Rattle.clone_told.specs.Told.{gives}
use Rattle.clone_ending.proofs.BehindLemmas.{archives_all}
use Rattle.clone_ending.proofs.BusyLemmas.{Asked, IsSound, serves_busy}
use Rattle.clone_ending.proofs.DonorLemmas.{goes_in, serving_is}
use Rattle.clone_paired.specs.Quiet.{EndRests, GoesOn}
use Rattle.clone_base.proofs.MapEntries.{slice_get-set_same}
use Rattle.std.proofs.lemmas.Option.{slice_get_within}
use Rattle.clone_ending.proofs.DonorLemmas.{in_execute, in_service}
use Rattle.clone_ending.proofs.ServiceLemmas.{Lowers, idles, left_of, lessens, plain, plain_most}
use Rattle.clone_ending.specs.Service.{service_in}

module _ (d : Donor) (at after : Connection) (sound : IsSound d) (e : StepsEnd gives d d at after (step.Served says.Idle)) (same : after ≡ at) where
  idle_is : e.says ≡ says.Idle
  idle_is = by (finds_loss at e.says) e.answers
    where
      by : (lost : Bool) → step.Served says.Idle ≡ said_as lost e.says → e.says ≡ says.Idle
      by true is = absurd (cc (is))
      by false is = cc (is)

  busy : (run : Execution) (what : Work) → at.doing ≡ doing.Serving run what → Asked d run what → ⊥
  busy run what is asked =
      both_ways (is_idle e.says) (serves_busy e.serves.steps.exchanges d d run what (sent_behind (reaches_task at) at.to_task) e.serves.sent e.serves.doing e.says asked (goes_in d d at after (step.Served says.Idle) e run what is) e.serves.steps.answers) (ap is_idle idle_is)

  never_in : (run : Execution) (what : Work) → at.doing ≡ doing.Serving run what → Lowers (left_of d (plain what)) (left_of d (in_service after)) e.says → ⊥
  never_in run what is (lessens now) = absurd (omega (arith, now, plain_most what, ap service_in is, ap in_service same))
  never_in run work.Claim is (idles now idle) = busy run work.Claim is sound
  never_in run (work.Weigh chunk) is (idles now idle) = busy run (work.Weigh chunk) is sound
  never_in run (work.Read place false) is (idles now idle) = busy run (work.Read place false) is sound
  never_in run (work.Read place true) is (idles now idle) = absurd (omega (arith, now, ap service_in is, ap in_service same))
  never_in run (work.Archive place limit) is (idles now idle) = absurd (omega (arith, now, ap service_in is, ap in_service same))

  never_rests : is_serving at.doing ≡ true → ⊥
  never_rests serving =
      let some = serving_is at.doing serving in
      never_in some.0 some.1 some.2 (in_execute d d at after (step.Served says.Idle) e some.0 some.1 some.2)

pub service_goes_on : (d : Donor) (n : Network) → IsDonor d → IsCloning d.cloning → ForSome d.cloning.session (λ (s : Session). IsSnap s.snap.list s.snap.chunks s.snap.room) → GoesOn gives d n
service_goes_on d n donor cloning snaps number at there opens serving rests =
    let s = subst (λ (o : Option Connection). MatchOption o ((d ≡ d) × (n ≡ n) × (step.Served says.Idle ≡ step.Served says.Idle)) (λ (x : Connection). (after : Connection) × StepsBy (is_open x) gives d d x after (step.Served says.Idle) × (n ≡ with_connection number after n))) there rests in
    let e : StepsEnd gives d d at s.0 (step.Served says.Idle) = subst (λ (b : Bool). StepsBy b gives d d at s.0 (step.Served says.Idle)) opens s.1 in
    let now : slice_get (with_connection number s.0 n).connections number ≡ Some s.0 = slice_get-set_same n.connections number s.0 (slice_get_within n.connections number at there) in
    let here : slice_get n.connections number ≡ Some s.0 = ap (λ (x : Network). slice_get x.connections number) s.2 ∙ now in
    let same : s.0 ≡ at = cc (here, there) in
    never_rests d at s.0 (record { donor = donor; archives = archives_all d.cloning cloning snaps }) e same serving
