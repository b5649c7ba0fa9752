-- THE TALK of donor and recipient goes on, by what happens in a world, while nobody but the tasks
-- has a hand in it and the donor's disk tells what it holds.
use Rattle.std.proofs.Common.{◌≡◌, ◌∙◌, ◌≤◌, ◌&&◌, ◌==◌, ℕ, List, [], ◌∷◌, Bool, true, false, not, if◌then◌else◌, refl, sym, ap, subst, Option, Some, None, IsSome, is_some, length}
use Rattle.std.specs.Prelude.{is_none}
use Rattle.clone_session.specs.declared.info.Stop as session
use Rattle.clone_tasks.specs.declared.end.CloneEnd as tasks
use Rattle.std.specs.Option.{ForSome, IfSome, option_map_or}
use Rattle.std.proofs.lemmas.Bool.{eqb-true, true≢false}
use Rattle.clone_outside.specs.DiskCalls.{DiskState}
use Rattle.clone_snapshot.specs.Snaps.{IsSnap}
use Rattle.clone_session.specs.Cloning.{IsCloning, Session}
use Rattle.clone_tasks.specs.Tables.{is_running}
use Rattle.clone_serve.specs.declared.turn.ServeAnswer.TheVariants as served
use Rattle.clone_network.specs.Connections.{Connection, StepsEnd, is_open}
use Rattle.clone_network.specs.Networks.{Network, StepsDonor}
use Rattle.clone_network.specs.declared.donor_step.DonorStep.{DonorStep}
use Rattle.clone_network.specs.declared.donor_step.DonorStep.TheVariants as step
use Rattle.clone_engine.specs.Acts.{Act, Acts}
use Rattle.clone_engine.specs.Donor as staged
use Rattle.clone_engine.specs.Donor.{IsDonor}
use Rattle.clone_sides.specs.Trace.{Entry, Runs, end_of}
use Rattle.clone_told.specs.Told.{gives}
use Rattle.clone_joined.specs.Runs.{HasCome, HasRun}
use Rattle.clone_joined.specs.Strangers.{acts_in}
use Rattle.clone_paired.specs.Own.{ActsAside, own_session}
use Rattle.clone_paired.specs.Order.{CopiesInOrder}
use Rattle.clone_paired.specs.Strangers.{IsBetween, ServesOther}
use Rattle.clone_paired.proofs.DonorPremisesKept.{act_ordered, none_ordered}
use Rattle.clone_paired.proofs.DonorOthers.{act_own}
use Rattle.clone_paired.proofs.StrangerLeaves.{stranger_leaves}
use Rattle.clone_talk.specs.Talking.{IsAlone, IsServer, OpensNone, Talks}
use Rattle.clone_talk.proofs.Alone.{act_alone, none_own}
use Rattle.clone_talk.proofs.Aside as aside_as
use Rattle.clone_talk.proofs.DonorTalks.{goes_on}
use Rattle.clone_talk.proofs.Over.{end_ordered}
use Rattle.clone_talk.proofs.TaskTalks.{moves_talk}
use Rattle.clone_core.specs.declared.world.Copying.{Copying}
use Rattle.clone_core.specs.declared.world.Course.{Course}
use Rattle.clone_core.specs.declared.world.Course.TheVariants as course
use Rattle.clone_core.specs.declared.world.TheConstants.{SESSION}
use Rattle.clone_core.specs.System.{System, has_ended, tell}
use Rattle.clone_core.specs.Acting.{alone_after, is_crowded, with_copying, with_donor, with_stranger}
use Rattle.clone_core.specs.Copied.{GoOnTalking, GoesOn, Holds, progress_by, progress_of, world_of}
use Rattle.clone_core.specs.CloneEvents.{NeverSticks}
use Rattle.clone_core.specs.Lines.{State}
use Rattle.std.specs.FinMap as finite
use Rattle.std.specs.Ordering.{nat_cmp}
use Rattle.clone_core.specs.Ending.{is_copying}
use Rattle.clone_core.specs.Quiet.{NobodyMoves}

-- the donor's disk tells what it holds
pub donor_told : (a b : Bool) → (a && b) ≡ true → a ≡ true
donor_told true b is = refl
donor_told false b is = is

-- ---- what holds of every donor

run_donor : (start : staged.Donor) (trace : List Entry) → IsDonor start → Runs start trace → IsDonor (end_of start trace)
run_donor start [] is runs = is
run_donor start (e ∷ es) is runs = run_donor e.after es runs.0.donor runs.1

came_donor : (floor : Option ℕ) (stop : Option session.Stop) (trace : List Entry) (d : staged.Donor) → HasRun SESSION floor stop trace d → IsDonor d
came_donor floor stop trace d run = subst IsDonor run.reaches (run_donor run.start trace run.fresh.donor run.runs)

pub server_of : (d : staged.Donor) → IsDonor d → IsCloning d.cloning → ForSome d.cloning.session (λ s. IsSnap s.snap.list s.snap.chunks s.snap.room) → IsSome d.engine.disk.told → IsServer d
server_of d is cloning snap told = record { donor = is; cloning = cloning; snap = snap; told = told }

-- ---- until a clone begins

pub no_session : (s : System) → s.donor.cloning.session ≡ None → GoOnTalking s course.Absent
no_session s none = (none_ordered s.donor none, ap (λ (o : Option Session). own_session SESSION (record s.donor.cloning { session = o })) none)

-- ---- an act of the donor that is none of the clone's, and opens no session

module _ (a : Act) (s : System) (t : staged.Donor) (aside : ActsAside SESSION a) (opens : OpensNone a) (acts : Acts a s.donor t) (told : tell s ≡ true) where
  donor_on : IsSome s.donor.engine.disk.told
  donor_on = donor_told (is_some s.donor.engine.disk.told) (is_some s.recipient.told) told

  pub act_talks : (w : Course) → GoesOn s w → GoOnTalking s w → GoOnTalking (record s { donor = t }) w
  act_talks course.Absent come talks =
      (act_ordered s.donor t (came_donor None s.stop come.0 s.donor come.1) donor_on talks.0 a acts, act_own SESSION s.donor t a acts aside ∙ talks.1)
  act_talks course.Unbegun come talks = tt
  act_talks (course.Begun c) joined talks = λ runs.
      let j = joined runs in
      let on = talks runs in
      aside_as.act_talks s.alone s.alone s.donor t c.reception c.network on
      (λ alone. (alone, λ going. act_alone c.reception.table.session s.donor t a (none_own c.reception.table.session a opens) acts (on.stays alone going)))
      (came_donor c.reception.table.floor s.stop j.trace s.donor j.run) donor_on a acts (subst (λ (n : ℕ). ActsAside n a) (sym j.session) aside)

-- ---- a step of the donor on a connection of the clone

pub serve_talks : (s : System) (c : Copying) (connection : ℕ) (t : staged.Donor) (n : Network) (says : DonorStep) → StepsDonor gives s.donor t connection c.network n says → (says ≡ step.Served served.NoMemory → ⊥) → IsServer s.donor → IsServer t → GoOnTalking s (course.Begun c)
    → GoOnTalking (with_copying c.reception n (with_donor t s)) (course.Begun (record { reception = c.reception; network = n }))
serve_talks s c connection t n says steps memory before after talks runs = goes_on s.alone s.donor t c.reception c.network n connection says (talks runs) steps before after memory

-- ---- a stranger's step

alone_by : (t : staged.Donor) (o : Option Session) → t.cloning.session ≡ o → option_map_or (λ (x : Session). not (x.number == SESSION)) o false ≡ false → IfSome o (λ x. x.number ≡ SESSION)
alone_by t None is free = tt
alone_by t (Some x) is free = eqb-true x.number SESSION (by (x.number == SESSION) free)
  where
    by : (b : Bool) → not b ≡ false → b ≡ true
    by true _ = refl
    by false never = absurd (true≢false never)

uncrowded : (number : ℕ) (t : staged.Donor) → number ≡ SESSION → is_crowded t ≡ false → IsAlone number t
uncrowded number t is free = subst (λ (n : ℕ). IsAlone n t) (sym is) (alone_by t t.cloning.session refl free)

-- while the clone hasn't ended, it is alone after the step where it was and none of the donor's
-- sessions is another's
alone_then : (t : staged.Donor) (s : System) → has_ended s.course ≡ false → alone_after t s ≡ true → (s.alone ≡ true) × (is_crowded t ≡ false)
alone_then t s going is = by (is_crowded t) refl
  where
    by : (b : Bool) → is_crowded t ≡ b → (s.alone ≡ true) × (is_crowded t ≡ false)
    by true crowded = absurd (true≢false (sym is ∙ (λ i. if crowded i && not (going i) then false else s.alone)))
    by false free = (sym (λ i. if free i && not (has_ended s.course) then false else s.alone) ∙ is, free)

module _ (s : System) (t : staged.Donor) (at after : Connection) (says : DonorStep) (steps : StepsEnd gives s.donor t at after says) (server : IsServer s.donor) (none : acts_in SESSION s.donor t at says ≡ false) (opens : is_open at ≡ true) (between : IsBetween at.doing) where
  pub stranger_talks : (w : Course) → s.course ≡ w → (has_ended w ≡ false → ServesOther SESSION at.doing) → GoesOn s w → GoOnTalking s w → GoOnTalking (with_stranger t s) w
  stranger_talks course.Absent is other come talks =
      (end_ordered s.donor t at after says server.donor server.told talks.0 steps, (stranger_leaves SESSION s.donor t at after says steps none opens between (other refl)).0 ∙ talks.1)
  stranger_talks course.Unbegun is other come talks = tt
  stranger_talks (course.Begun c) is other joined talks = λ runs.
      let j = joined runs in
      let going : has_ended (course.Begun c) ≡ false = unended c.reception.table.ended runs in
      aside_as.stranger_talks s.alone (alone_after t s) s.donor t c.reception c.network (talks runs)
      (λ alone. let both = alone_then t s (ap has_ended is ∙ going) alone in (both.0, λ copying. uncrowded c.reception.table.session t j.session both.1))
      server at after says steps (subst (λ (n : ℕ). acts_in n s.donor t at says ≡ false) (sym j.session) none) opens between (subst (λ (n : ℕ). ServesOther n at.doing) (sym j.session) (other going))
    where
      unended : (o : Option tasks.CloneEnd) → is_none o ≡ true → is_some o ≡ false
      unended None runs = refl
      unended (Some how) runs = absurd (true≢false (sym runs))

-- ---- somebody has something to do

pub never_sticks : (s : System) (w : Course) → s.course ≡ w → is_copying (progress_of w) ≡ true → IsServer s.donor → GoOnTalking s w → NobodyMoves s w → ⊥
never_sticks s course.Absent is going server talks quiet = true≢false (sym going)
never_sticks s course.Unbegun is going server talks quiet = true≢false (sym going)
never_sticks s (course.Begun c) is going server talks quiet = let runs = running c.reception.table.ended going in moves_talk s.alone s.donor c.reception s.recipient c.network server (talks runs) runs quiet
  where
    running : (o : Option tasks.CloneEnd) → is_copying (progress_by o) ≡ true → is_none o ≡ true
    running None is = refl
    running (Some how) is = absurd (true≢false (sym is))

pub sticks_never : (s : System) (begun : finite.FinMap nat_cmp ℕ) (disturbed doubted shown : Bool) → Holds (world_of s begun disturbed doubted shown) → IsDonor s.donor → IsCloning s.donor.cloning → ForSome s.donor.cloning.session (λ x. IsSnap x.snap.list x.snap.chunks x.snap.room) → (r : State) → world_of s begun disturbed doubted shown ≡ r → NeverSticks r
sticks_never s begun disturbed doubted shown holds donor cloning snap r is = subst NeverSticks is (λ told honest going quiet.
    never_sticks s s.course refl going (server_of s.donor donor cloning snap (donor_told (is_some s.donor.engine.disk.told) (is_some s.recipient.told) told)) (holds.talks told honest) quiet)
