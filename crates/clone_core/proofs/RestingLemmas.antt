-- A STEP THAT FINDS NOTHING TO DO leaves a world as it was, and is found nothing again.
use Rattle.std.proofs.Common.{ℕ, ◌≡◌, ◌∙◌, ◌≤◌, ◌<◌, Bool, Option, refl, ap, sym, subst, arith, inl, inr}
use Rattle.std.specs.FinMap as finite
use Rattle.std.specs.Ordering.{nat_cmp}
use Rattle.clone_outside.specs.DiskCalls.{DiskState}
use Rattle.clone_session.specs.declared.info.Stop as session
use Rattle.clone_serve.specs.declared.turn.ServeAnswer.TheVariants as served
use Rattle.clone_recipient.specs.Receptions.{Reception}
use Rattle.clone_fetch.specs.declared.answer.TaskAnswer.{TaskAnswer}
use Rattle.clone_fetch.specs.declared.answer.TaskAnswer.TheVariants as task_as
use Rattle.clone_network.specs.Networks.{Network, StepsDonor, StepsTask}
use Rattle.clone_network.specs.declared.donor_step.DonorStep.{DonorStep}
use Rattle.clone_network.specs.declared.donor_step.DonorStep.TheVariants as step
use Rattle.clone_engine.specs.Donor as staged
use Rattle.clone_told.specs.Told.{gives}
use Rattle.clone_joined.specs.Runs.{stop_by}
use Rattle.clone_ending.proofs.BusyLemmas.{IsSound}
use Rattle.clone_ending.proofs.QuietLemmas.{quiet_network}
use Rattle.clone_ending.proofs.StepLemmas.{outcome_same, step_outcome}
use Rattle.clone_paired.specs.Quiet as paired
use Rattle.clone_core.specs.declared.world.Copying.{Copying}
use Rattle.clone_core.specs.declared.world.Course.{Course}
use Rattle.clone_core.specs.declared.world.Course.TheVariants as course_as
use Rattle.clone_core.specs.declared.world.TheConstants.{SESSION}
use Rattle.clone_core.specs.Acting.{with_copying}
use Rattle.clone_core.specs.Copied.{Holds, world_of}
use Rattle.clone_core.specs.Idling.{EndIdles, TaskIdles}
use Rattle.clone_core.specs.Left.{is_idle, is_quiet}
use Rattle.clone_core.specs.Lines.{State}
use Rattle.clone_core.specs.Parts.{IsOnTerms, OnTerms}
use Rattle.clone_core.specs.Quiet.{AreClosed, EndRests, IsBefore, NobodyMoves, TaskRests, tasks_of}
use Rattle.clone_core.specs.System.{System}
use Rattle.clone_core.proofs.HoldsLemmas.{same_stop}
use Rattle.clone_core.proofs.IdleLemmas.{closed_rests, donor_idle}

-- ---- where no clone was begun

pub no_task : (task : ℕ) (s : System) (w : Course) → ((k : Copying) → w ≡ course_as.Begun k → ⊥) → TaskRests task s w
no_task task s course_as.Absent none = tt
no_task task s course_as.Unbegun none = tt
no_task task s (course_as.Begun k) none = absurd (none k refl)

pub no_end : (number : ℕ) (s : System) (w : Course) → ((k : Copying) → w ≡ course_as.Begun k → ⊥) → EndRests number s w
no_end number s course_as.Absent none = tt
no_end number s course_as.Unbegun none = tt
no_end number s (course_as.Begun k) none = absurd (none k refl)

pub no_open : (from : ℕ) (next : Option ℕ) (w : Course) → ((k : Copying) → w ≡ course_as.Begun k → ⊥) → AreClosed from next w
no_open from next course_as.Absent none = tt
no_open from next course_as.Unbegun none = tt
no_open from next (course_as.Begun k) none = absurd (none k refl)

-- ---- all of them

pub nobody_moves : (s : System) (w : Course) → ((task : ℕ) → task < tasks_of w → TaskRests task s w) → ((number : ℕ) → EndRests number s w) → NobodyMoves s w
nobody_moves s course_as.Absent tasks ends = tt
nobody_moves s course_as.Unbegun tasks ends = tt
nobody_moves s (course_as.Begun k) tasks ends = record { tasks = tasks; ends = ends }

pub closed_end : (s : System) (w : Course) (from : ℕ) (next : Option ℕ) → AreClosed from next w → (number : ℕ) → from ≤ number → IsBefore next number → EndRests number s w
closed_end s course_as.Absent from next closed number behind before = tt
closed_end s course_as.Unbegun from next closed number behind before = tt
closed_end s (course_as.Begun k) from next closed number behind before = closed_rests s.donor number k.network (closed number behind before)

-- as many tasks as the terms say
pub tasks_within : (s : System) (w : Course) → OnTerms s.terms w → tasks_of w ≤ s.terms.tasks
tasks_within s course_as.Absent on = omega arith
tasks_within s course_as.Unbegun on = omega arith
tasks_within s (course_as.Begun k) on = omega (arith, on.count)

-- ---- A STEP OF THE DONOR

module _ (s : System) (begun : finite.FinMap nat_cmp ℕ) (disturbed doubted shown : Bool) (c : Copying) (at : s.course ≡ course_as.Begun c) (connection : ℕ) (t : staged.Donor) (n : Network) (says : DonorStep) (steps : StepsDonor gives s.donor t connection c.network n says)
    (holds : Holds (world_of s begun disturbed doubted shown)) (stop : Option session.Stop) (noted : stop ≡ stop_by SESSION s.stop t) (sound : IsSound s.donor) where
  abbrev served_by : State
  served_by = world_of (record (with_copying c.reception n (record s { donor = t })) { stop = stop }) begun disturbed doubted shown

  served_same : t ≡ s.donor → n ≡ c.network → served_by ≡ world_of s begun disturbed doubted shown
  served_same donor network =
      let stops : stop ≡ s.stop = noted ∙ same_stop s.stop s.donor.cloning.stop t.cloning.stop holds.unstopped (ap (λ (d : staged.Donor). d.cloning.stop) donor) in
      (λ i. world_of (record s { donor = donor i; course = course_as.Begun (record { reception = c.reception; network = network i }); stop = stops i }) begun disturbed doubted shown)
      ∙ ap (λ (w : Course). world_of (record s { course = w }) begun disturbed doubted shown) (sym at)

  serve_rests : t ≡ s.donor → n ≡ c.network → says ≡ step.Served served.Idle → EndRests connection s s.course
  serve_rests donor network idle =
      subst (EndRests connection s) (sym at)
      (subst (λ (x : Network). StepsDonor gives s.donor s.donor connection c.network x (step.Served served.Idle)) network
      (subst (λ (x : staged.Donor). StepsDonor gives s.donor x connection c.network n (step.Served served.Idle)) donor
      (subst (StepsDonor gives s.donor t connection c.network n) idle steps)))

  pub serve_idles : (r : State) → world_of s begun disturbed doubted shown ≡ r → EndIdles (is_idle says) connection r served_by
  serve_idles r is = subst (λ (x : State). EndIdles (is_idle says) connection x served_by) is (by says refl)
    where
      on : IsOnTerms s.terms c
      on = subst (OnTerms s.terms) at holds.parts

      by : (answer : DonorStep) → says ≡ answer → EndIdles (is_idle answer) connection (world_of s begun disturbed doubted shown) served_by
      by (step.Served served.Idle) heard =
          let same = donor_idle s.donor t connection c.network n sound on.ends (subst (StepsDonor gives s.donor t connection c.network n) heard steps) in
          (served_same same.0 same.1, serve_rests same.0 same.1 heard)
      by step.Lost heard = tt
      by (step.Served other) heard = tt

-- ---- A STEP OF A TASK

module _ (s : System) (begun : finite.FinMap nat_cmp ℕ) (disturbed doubted shown : Bool) (c : Copying) (at : s.course ≡ course_as.Begun c) (number : ℕ) (r : Reception) (n : Network) (disk : DiskState) (says : TaskAnswer) (steps : StepsTask number s.looked c.reception r s.recipient disk c.network n says) where
  abbrev stepped : State
  stepped = world_of (with_copying r n (record s { recipient = disk })) begun disturbed doubted shown

  stepped_same : r ≡ c.reception → disk ≡ s.recipient → n ≡ c.network → stepped ≡ world_of s begun disturbed doubted shown
  stepped_same reception recipient network =
      (λ i. world_of (record s { recipient = recipient i; course = course_as.Begun (record { reception = reception i; network = network i }) }) begun disturbed doubted shown)
      ∙ ap (λ (w : Course). world_of (record s { course = w }) begun disturbed doubted shown) (sym at)

  again : (a : TaskAnswer) → r ≡ c.reception → disk ≡ s.recipient → n ≡ c.network → StepsTask number s.looked c.reception r s.recipient disk c.network n a → StepsTask number s.looked c.reception c.reception s.recipient s.recipient c.network c.network a
  again a reception recipient network so =
      subst (λ (x : Network). StepsTask number s.looked c.reception c.reception s.recipient s.recipient c.network x a) network
      (subst (λ (x : DiskState). StepsTask number s.looked c.reception c.reception s.recipient x c.network n a) recipient
      (subst (λ (x : Reception). StepsTask number s.looked c.reception x s.recipient disk c.network n a) reception so))

  pub task_idles : (w : State) → world_of s begun disturbed doubted shown ≡ w → TaskIdles (is_quiet says) number w stepped
  task_idles w is = subst (λ (x : State). TaskIdles (is_quiet says) number x stepped) is (by says refl)
    where
      rests : paired.TaskRests number c.reception s.recipient c.network → TaskRests number s s.course
      rests so = subst (TaskRests number s) (sym at) so

      by : (a : TaskAnswer) → says ≡ a → TaskIdles (is_quiet a) number (world_of s begun disturbed doubted shown) stepped
      by task_as.Idle heard =
          let so = subst (StepsTask number s.looked c.reception r s.recipient disk c.network n) heard steps in
          let same = quiet_network c.reception r s.recipient disk c.network n number s.looked task_as.Idle refl so in
          let known = outcome_same c.reception r task_as.Idle refl (step_outcome c.reception r s.recipient disk c.network n number s.looked task_as.Idle so) in
          (stepped_same known same.0 same.1, rests (s.looked, inl (again task_as.Idle known same.0 same.1 so)))
      by task_as.Stale heard =
          let so = subst (StepsTask number s.looked c.reception r s.recipient disk c.network n) heard steps in
          let same = quiet_network c.reception r s.recipient disk c.network n number s.looked task_as.Stale refl so in
          let known = outcome_same c.reception r task_as.Stale refl (step_outcome c.reception r s.recipient disk c.network n number s.looked task_as.Stale so) in
          (stepped_same known same.0 same.1, rests (s.looked, inr (again task_as.Stale known same.0 same.1 so)))
      by (task_as.Sent code) heard = tt
      by (task_as.Took took) heard = tt
      by (task_as.Lost losses) heard = tt
      by (task_as.Ended how) heard = tt
      by task_as.NoMemory heard = tt
