-- An end of a connection that nobody reads any more has less to do after each step, until it has ended.
use Rattle.std.proofs.Common.{◌≡◌, ◌∙◌, ◌<◌, Bool, true, false, refl, ap, sym, arith, inl, inr}
use Rattle.std.specs.Prelude.{◌&&◌, ◌||◌, not, if◌then◌else◌}
use Rattle.std.specs.Option.{ForSome}
use Rattle.std.proofs.lemmas.Bool.{both_ways, cases_Bool}
use Rattle.clone_snapshot.specs.Snaps.{IsSnap}
use Rattle.clone_session.specs.Cloning.{IsCloning, Session}
use Rattle.clone_serve.specs.declared.doing.Doing.TheVariants as doing
use Rattle.clone_serve.specs.declared.doing.Execution.{Execution}
use Rattle.clone_serve.specs.declared.doing.Work.{Work}
use Rattle.clone_serve.specs.declared.doing.Work.TheVariants as work
use Rattle.clone_serve.specs.declared.turn.ServeAnswer.TheVariants as says
use Rattle.clone_network.specs.Connections.{Connection, StepsEnd, finds_loss, is_idle, is_open, is_serving, reaches_task, said_as, sent_behind, was_refused}
use Rattle.clone_network.specs.declared.donor_step.DonorStep.{DonorStep}
use Rattle.clone_network.specs.declared.donor_step.DonorStep.TheVariants as step
use Rattle.clone_engine.specs.Donor.{Donor, IsDonor}
use Rattle.clone_told.specs.Told.{gives}
use Rattle.clone_ending.specs.Service.{HasNumbers, alone, end_work, service_in}
use Rattle.clone_ending.specs.Unread.{end_left}
use Rattle.clone_ending.proofs.BehindLemmas.{archives_all}
use Rattle.clone_ending.proofs.BusyLemmas.{Asked, IsSound, serves_busy}
use Rattle.clone_ending.proofs.DonorLemmas.{Came, end_came, fewer, fewer_less, goes_in, in_execute, in_service, lower, lower_less, lost, rests, serving_is}
use Rattle.clone_ending.proofs.ServiceLemmas.{Lowers, idles, left_of, lessens, plain, plain_most}
use Rattle.clone_ending.proofs.UnreadLemmas.{steps_most}

-- a step that finds nothing to do finds that the connection was given up
given_up_lost : (serving cut held idle went : Bool) → serving ≡ false → held ≡ false → idle ≡ true → (if serving then cut && went else idle && (cut || not held)) ≡ true
given_up_lost true cut held idle went free unheld rest = absurd (cc)
given_up_lost false cut true idle went free unheld rest = absurd (cc)
given_up_lost false cut false false went free unheld rest = absurd (cc)
given_up_lost false true false true went free unheld rest = refl
given_up_lost false false false true went free unheld rest = refl

-- WHAT COMES OF A STEP
data Falls (d t : Donor) (at after : Connection) : Type 0 where
  falls_fewer : end_left after < end_left at → Falls d t at after
  falls_lower : left_of t (in_service after) < left_of d (in_service at) → Falls d t at after

module _ (d t : Donor) (at after : Connection) (answer : DonorStep) (sound : IsSound d) (unheld : at.held ≡ false) (e : StepsEnd gives d t at after answer) (on : is_open after ≡ true) where
  -- its loop goes on, so it has found no loss
  none_lost : finds_loss at e.says ≡ true → Falls d t at after
  none_lost loss = absurd (both_ways (is_open after) (lost d t at after answer e loss) on)

  -- an EXECUTE in service isn't idle
  execute_busy : (run : Execution) (what : Work) → at.doing ≡ doing.Serving run what → Asked d run what → is_idle e.says ≡ false
  execute_busy run what is asked = serves_busy e.serves.steps.exchanges d t run what (sent_behind (reaches_task at) at.to_task) e.serves.sent e.serves.doing e.says asked (goes_in d t at after answer e run what is) e.serves.steps.answers

  not_busy : is_idle e.says ≡ false → e.says ≡ says.Idle → Falls d t at after
  not_busy busy idle = absurd (both_ways (is_idle e.says) busy (ap is_idle idle))

  in_service_falls : (run : Execution) (what : Work) → at.doing ≡ doing.Serving run what → Lowers (left_of d (plain what)) (left_of t (in_service after)) e.says → Falls d t at after
  in_service_falls run what is (lessens now) = falls_lower (omega (arith, now, plain_most what, ap service_in is))
  in_service_falls run work.Claim is (idles now idle) = not_busy (execute_busy run work.Claim is sound) idle
  in_service_falls run (work.Weigh chunk) is (idles now idle) = not_busy (execute_busy run (work.Weigh chunk) is sound) idle
  in_service_falls run (work.Read place false) is (idles now idle) = not_busy (execute_busy run (work.Read place false) is sound) idle
  in_service_falls run (work.Read place true) is (idles now idle) = falls_lower (omega (arith, now, ap service_in is))
  in_service_falls run (work.Archive place limit) is (idles now idle) = falls_lower (omega (arith, now, ap service_in is))

  -- before an EXECUTE
  idle_falls : is_serving at.doing ≡ false → answer ≡ step.Served says.Idle → Falls d t at after
  idle_falls free idle = by (finds_loss at e.says) refl (sym e.answers ∙ idle)
    where
      by : (b : Bool) → finds_loss at e.says ≡ b → said_as b e.says ≡ step.Served says.Idle → Falls d t at after
      by true loss is = none_lost loss
      by false kept is =
          let nothing : e.says ≡ says.Idle = cc in
          none_lost (given_up_lost (is_serving at.doing) at.cut at.held (is_idle e.says) (not (was_refused e.says)) free unheld (ap is_idle nothing))

  came_falls : is_serving at.doing ≡ false → Came d t at after answer → Falls d t at after
  came_falls free (fewer less) = falls_fewer less
  came_falls free (lower most less) = falls_lower less
  came_falls free (rests most same idle) = idle_falls free idle

  falls : is_open at ≡ true → Falls d t at after
  falls opens =
      elim (cases_Bool (is_serving at.doing)) [
        | inl serving ↦ let some = serving_is at.doing serving in in_service_falls some.0 some.1 some.2 (in_execute d t at after answer e some.0 some.1 some.2)
        | inr free ↦ came_falls free (end_came d t at after answer e opens)
      ]

  pub end_less : is_open at ≡ true → ForSome t.cloning.session HasNumbers → end_work t after < end_work d at
  end_less opens numbers = by (falls opens)
    where
      by : Falls d t at after → end_work t after < end_work d at
      by (falls_fewer less) = fewer_less d t (alone at) (alone after) 0 answer numbers at after refl refl less
      by (falls_lower less) = lower_less d t (alone at) (alone after) 0 answer numbers at after refl refl (steps_most gives d t at after answer opens e) less

-- A STEP of such an end
pub end_step : (d t : Donor) (at after : Connection) (answer : DonorStep) → IsDonor d → IsCloning d.cloning → ForSome d.cloning.session (λ (s : Session). IsSnap s.snap.list s.snap.chunks s.snap.room) → ForSome t.cloning.session HasNumbers
    → is_open at ≡ true → at.held ≡ false → StepsEnd gives d t at after answer → is_open after ≡ true → end_work t after < end_work d at
end_step d t at after answer donor cloning snaps numbers opens unheld e on =
    end_less d t at after answer (record { donor = donor; archives = archives_all d.cloning cloning snaps }) unheld e on opens numbers
