-- A STEP OF THE DONOR on a connection of the clone, in a world.
use Rattle.std.proofs.Common.{◌≡◌, ◌∙◌, ◌≤◌, ◌<◌, ◌∷◌, [], ℕ, Bool, true, false, refl, sym, ap, subst, arith, List, ◌++◌, ◌&&◌, length, Option, Some, None, IsSome, is_some, MatchOption, inl, inr}
use Rattle.std.specs.Prelude.{is_none, slice_get, unwrap_or}
use Rattle.std.proofs.lemmas.Bool.{true≢false}
use Rattle.clone_outside.specs.Disk.{ForTold}
use Rattle.std.specs.List.{AllByRecursion}
use Rattle.clone_follow.specs.Binlog.{IsShort}
use Rattle.clone_plain.specs.Donor as plain
use Rattle.clone_tasks.specs.declared.end.CloneEnd as tasks
use Rattle.clone_tasks.specs.declared.end.CloneEnd.TheVariants as ends_as
use Rattle.clone_recipient.specs.Receptions.{Reception}
use Rattle.clone_joined.specs.Joined.{IsInProgress}
use Rattle.clone_talk.specs.Talking.{IsServer}
use Rattle.std.specs.FinMap as finite
use Rattle.std.specs.Ordering.{nat_cmp}
use Rattle.clone_script.specs.declared.lines.Line.TheVariants as lines
use Rattle.clone_session.specs.declared.info.Stop as session
use Rattle.clone_answers.specs.StepTexts as texts
use Rattle.clone_network.specs.Connections.{Connection, StepsBy, is_open}
use Rattle.clone_network.specs.Networks.{Network, StepsDonor, with_connection}
use Rattle.clone_network.specs.declared.donor_step.DonorStep.{DonorStep}
use Rattle.clone_network.specs.declared.donor_step.DonorStep.TheVariants as step
use Rattle.clone_serve.specs.declared.turn.ServeAnswer.TheVariants as served
use Rattle.clone_plain.specs.Answers.{Text}
use Rattle.clone_engine.specs.Donor as staged
use Rattle.clone_sides.specs.Moment.{own_stop}
use Rattle.clone_told.specs.Told.{gives}
use Rattle.clone_joined.specs.Lending.{Lends, StopsNow}
use Rattle.clone_joined.proofs.LendingLemmas.{end_lends, end_stops}
use Rattle.clone_joined.proofs.JoinedLemmas.{joined_donor}
use Rattle.clone_events.specs.World.{Clone, HasEnded, IsHonest, IsSure, IsUnderWay, Progress, absent, broken, copying, over}
use Rattle.clone_events.specs.Events.{Change, EndsFairly, IsComplete, ShowsChanges, ShowsIn, TellsEnd, acts, changed_all, changed_in, ends, recipient_fault}
use Rattle.clone_core.specs.declared.world.Copying.{Copying}
use Rattle.clone_core.specs.declared.world.Course.{Course}
use Rattle.clone_core.specs.declared.world.Course.TheVariants as course_as
use Rattle.clone_core.specs.declared.world.TheConstants.{SESSION}
use Rattle.clone_core.specs.System.{System, donor_of, tell}
use Rattle.clone_core.specs.Acting.{ActsDonor, OnCopying, donor_changes, end_of, stop_changes, with_copying, with_donor}
use Rattle.clone_core.specs.CloneEvents.{Changes}
use Rattle.clone_core.specs.Copied.{GoOnTalking, GoesOn, Holds, HoldsEnded, KeepsClone, KnowsItsSizes, SaysInProgress, floor_of, progress_by, progress_of, world_of}
use Rattle.clone_core.specs.Lines.{State, Happens}
use Rattle.clone_core.specs.Parts.{OnTerms}
use Rattle.clone_core.specs.CloneEvents.{Acts, ActsUntold, ended_at_last}
use Rattle.clone_core.specs.Left.{DonorLeaves, donor_left, is_idle, left_for_donor, left_for_tasks, tasks_left}
use Rattle.clone_ending.specs.Service.{HasNumbers, donor_work}
use Rattle.clone_ending.proofs.DonorLemmas.{donor_busy, donor_rests}
use Rattle.clone_joined.specs.Runs.{stop_by}
use Rattle.std.specs.Option.{ForSome}
use Rattle.clone_core.proofs.DonorLemmas as donors
use Rattle.clone_core.proofs.PartLemmas.{donor_on}
use Rattle.clone_core.proofs.UntoldLemmas.{happened_untold}
use Rattle.clone_core.proofs.KeepLemmas.{for_told}
use Rattle.clone_core.proofs.TalkLemmas.{donor_told, serve_talks}

-- nothing was asked of the donor
pub same_lends : (d t : staged.Donor) → t ≡ d → Lends d t
same_lends d t is = record {
  donor = ap (λ (x : staged.Donor). x.engine.donor) is;
  told = ap (λ (x : staged.Donor). x.engine.disk.told) is;
  disk = record {
    later = subst (λ (x : staged.Donor). d.engine.disk.failures ≤ x.engine.disk.failures) (sym is) (omega arith);
    orders = ap (λ (x : staged.Donor). x.engine.disk.orders) is;
    tells = ap (λ (x : staged.Donor). is_some x.engine.disk.told) is;
  };
}

pub same_stops : (d t : staged.Donor) → t ≡ d → StopsNow SESSION d t
same_stops d t is = λ stop none some. absurd (let both : None ≡ Some stop = sym none ∙ ap (λ (x : staged.Donor). own_stop SESSION x.cloning.stop) (sym is) ∙ some in cc)

by_end : (is_on : Bool) (d t : staged.Donor) (at after : Connection) (says : DonorStep) → StepsBy is_on gives d t at after says → Lends d t × StopsNow SESSION d t
by_end true d t at after says steps = (end_lends d t at after says steps, end_stops SESSION d t at after says steps)
by_end false d t at after says rests = (same_lends d t rests.donor, same_stops d t rests.donor)

pub donor_lends : (d t : staged.Donor) (number : ℕ) (n m : Network) (says : DonorStep) → StepsDonor gives d t number n m says → Lends d t × StopsNow SESSION d t
donor_lends d t number n m says steps = by (slice_get n.connections number) steps
  where
    by : (o : Option Connection) → MatchOption o ((t ≡ d) × (m ≡ n) × (says ≡ step.Served served.Idle)) (λ (at : Connection). (after : Connection) × StepsBy (is_open at) gives d t at after says × (m ≡ with_connection number after n)) → Lends d t × StopsNow SESSION d t
    by None rests = (same_lends d t rests.0, same_stops d t rests.0)
    by (Some at) did = by_end (is_open at) d t at did.0 says did.1

-- no change of a donor's step is an end
stops_tell : (stop own : Option session.Stop) (text : Text) → TellsEnd (stop_changes stop own) text
stops_tell None None text = tt
stops_tell None (Some at) text = tt
stops_tell (Some stop) own text = tt

stops_fair : (clone : Clone) (stop own : Option session.Stop) → EndsFairly clone (stop_changes stop own)
stops_fair clone None None = tt
stops_fair clone None (Some at) = tt
stops_fair clone (Some stop) own = tt

-- where memory ran out, that is the end
starving_tells : (stop own : Option session.Stop) → TellsEnd (stop_changes stop own ++ ends broken ∷ []) recipient_fault
starving_tells None None = refl
starving_tells None (Some at) = refl
starving_tells (Some stop) own = refl

starving_fair : (clone : Clone) (stop own : Option session.Stop) → EndsFairly clone (stop_changes stop own ++ ends broken ∷ [])
starving_fair clone None None = tt
starving_fair clone None (Some at) = tt
starving_fair clone (Some stop) own = tt

module _ (s : System) (begun : finite.FinMap nat_cmp ℕ) (disturbed doubted shown : Bool) (c : Copying) (at : s.course ≡ course_as.Begun c) (connection : ℕ) (t : staged.Donor) (n : Network) (says : DonorStep) (steps : StepsDonor gives s.donor t connection c.network n says)
    (holds : Holds (world_of s begun disturbed doubted shown)) where
  abbrev old : State
  old = world_of s begun disturbed doubted shown

  abbrev w : Course
  w = course_as.Begun (record { reception = c.reception; network = n })

  abbrev next : System
  next = with_copying c.reception n (with_donor t s)

  abbrev new : State
  new = world_of next begun disturbed doubted shown

  same : progress_of w ≡ progress_of s.course
  same = ap progress_of (sym at)

  floor : floor_of w ≡ floor_of s.course
  floor = ap floor_of (sym at)

  lends : Lends s.donor t × StopsNow SESSION s.donor t
  lends = donor_lends s.donor t connection c.network n says steps

  goes : IsHonest new.clone → GoesOn next w
  goes honest runs = joined_donor SESSION c.reception s.recipient.told s.stop s.donor t c.network n connection says (subst (GoesOn s) at (holds.goes_on honest) runs) steps

  changed : Changes (donor_changes s t) old new
  changed = donors.changed s begun disturbed doubted shown t w false false s.alone refl same floor lends.0 lends.1 holds goes

  pub happens : Happens old (acts (lines.Serve connection) (donor_changes s t) (texts.step_text says)) new
  happens = record {
    step = subst (λ (x : Course). OnCopying (ActsDonor connection) x s next (donor_changes s t) (texts.step_text says)) (sym at)
        (record { donor = t; network = n; says = says; steps = steps; is = refl; changed = refl; answers = refl });
    begun = refl;
    clone = record { now = changed.now; shows = (changed.shows, stops_tell s.stop (own_stop SESSION t.cloning.stop) (texts.step_text says), λ told. stops_fair old.clone s.stop (own_stop SESSION t.cloning.stop)); is = changed.clone };
    tells = changed.tells;
    tasks = refl;
    sees = λ told. tt;
  }

  on_next : OnTerms s.terms w
  on_next = donor_on s.terms c.reception s.donor t connection c.network n says steps (subst (OnTerms s.terms) at holds.parts)

  talks : (says ≡ step.Served served.NoMemory → ⊥) → (IsSome s.donor.engine.disk.told → IsServer s.donor) → (IsSome t.engine.disk.told → IsServer t) → new.tells ≡ true → IsHonest new.clone → GoOnTalking next w
  talks memory before after told honest =
      let was : tell s ≡ true = sym (ap (λ b. b && is_some s.recipient.told) lends.0.disk.tells) ∙ told in
      serve_talks s c connection t n says steps memory (before (donor_told (is_some s.donor.engine.disk.told) (is_some s.recipient.told) was)) (after (donor_told (is_some t.engine.disk.told) (is_some s.recipient.told) told)) (subst (GoOnTalking s) at (holds.talks was honest))

  pub holds_next : (says ≡ step.Served served.NoMemory → ⊥) → (IsSome s.donor.engine.disk.told → IsServer s.donor) → (IsSome t.engine.disk.told → IsServer t) → Holds new
  holds_next memory before after = donors.holds_next s begun disturbed doubted shown t w false false s.alone refl same floor lends.0 lends.1 holds goes on_next (subst (KnowsItsSizes s) at holds.sizes) (subst (λ (x : Course). SaysInProgress x s.recipient.told) at holds.marked) (talks memory before after)

  -- ---- MEMORY RAN OUT in it, which ends the clone

  abbrev was : Option tasks.CloneEnd
  was = c.reception.table.ended

  abbrev last : tasks.CloneEnd
  last = unwrap_or was ends_as.DiskFault

  abbrev failed : System
  failed = with_copying (ended_at_last c.reception) n (with_donor t s)

  abbrev starved : State
  starved = world_of failed begun disturbed doubted shown

  abbrev starving : List Change
  starving = donor_changes s t ++ ends broken ∷ []

  ended_so : (e : Option tasks.CloneEnd) → was ≡ e → starved ≡ world_of (with_copying (record c.reception { table = record c.reception.table { ended = Some (unwrap_or e ends_as.DiskFault) } }) n (with_donor t s)) begun disturbed doubted shown
  ended_so e is = λ i. world_of (with_copying (record c.reception { table = record c.reception.table { ended = Some (unwrap_or (is i) ends_as.DiskFault) } }) n (with_donor t s)) begun disturbed doubted shown

  -- a clone that had ended is as it was
  ended_same : (how : tasks.CloneEnd) → was ≡ Some how → starved ≡ new
  ended_same how is =
      ended_so (Some how) is ∙ (λ i. world_of (with_copying (record c.reception { table = record c.reception.table { ended = sym is i } }) n (with_donor t s)) begun disturbed doubted shown)

  starved_clone : was ≡ None → starved.clone ≡ record new.clone { progress = over broken }
  starved_clone first = ap (λ (x : State). x.clone) (ended_so None first)

  goes_on : was ≡ None → new.clone.progress ≡ copying
  goes_on first = ap progress_by first

  starving_clone : was ≡ None → starved.clone ≡ changed_all starving old.clone
  starving_clone first =
      starved_clone first ∙ sym (ap (λ (p : Progress). changed_in p (ends broken) new.clone) (goes_on first)) ∙ ap (changed_all (ends broken ∷ [])) changed.clone ∙ sym (donors.changes_join old.clone (donor_changes s t) (ends broken ∷ []))

  starving_shows : was ≡ None → ShowsChanges (donor_of s) old.clone starving
  starving_shows first = donors.shows_join (donor_of s) old.clone (donor_changes s t) (ends broken ∷ []) changed.shows
      (subst (λ (x : Clone). ShowsChanges (donor_of s) x (ends broken ∷ [])) changed.clone (by new.clone.progress (goes_on first), tt))
    where
      by : (p : Progress) → p ≡ copying → ShowsIn p (donor_of s) new.clone (ends broken)
      by p is = subst (λ (q : Progress). ShowsIn q (donor_of s) new.clone (ends broken)) (sym is) (subst IsUnderWay (sym (goes_on first)) tt, tt)

  starves : (e : Option tasks.CloneEnd) → was ≡ e → ActsUntold (lines.Serve connection) old starved
  starves (Some how) is =
      subst (ActsUntold (lines.Serve connection) old) (sym (ended_same how is)) (
        donor_changes s t,
        texts.step_text says,
        happened_untold old (acts (lines.Serve connection) (donor_changes s t) (texts.step_text says) ∷ []) new (tt, tt) (new, happens, refl),
      )
  starves None is = (
    starving,
    recipient_fault,
    record {
      donor = changed.plain;
      begun = refl;
      tells = changed.tells;
      tasks = refl;
      clone = (
        record {
          now = donors.now_join (donor_of s) (donor_changes s t) (ends broken ∷ []) changed.now tt;
          shows = (starving_shows is, starving_tells s.stop (own_stop SESSION t.cloning.stop), λ told. starving_fair old.clone s.stop (own_stop SESSION t.cloning.stop));
          is = refl;
        },
        starving_clone is,
      );
    },
  )

  keeps : KeepsClone (donor_of next) new.tells new.clone s.recipient.told
  keeps = donors.keeps_next s begun disturbed doubted shown t w false false s.alone refl same floor lends.0 lends.1 holds goes

  starved_ended : (e : Option tasks.CloneEnd) → was ≡ e → IsSure (tell failed) starved.clone → ForTold s.recipient.told (HoldsEnded (donor_of failed) starved.clone)
  starved_ended (Some how) is sure = (subst (λ (x : State). IsSure x.tells x.clone → ForTold s.recipient.told (HoldsEnded (donor_of failed) x.clone)) (sym (ended_same how is)) (keeps.holds (subst HasEnded (sym (ap progress_by is)) tt))) sure
  starved_ended None is sure =
      for_told s.recipient.told (IsInProgress SESSION) (HoldsEnded (donor_of failed) starved.clone)
      (λ m marked. record { whole = λ whole. absurd (subst IsComplete (ap (λ (x : Clone). x.progress) (starved_clone is)) whole); other = inl (inr (inl marked)); shown = λ was_shown. absurd (true≢false (sym was_shown ∙ (holds.steady (λ ended. subst HasEnded (ap progress_of at ∙ ap progress_by is) ended)).1)) })
      (subst (λ (x : Course). SaysInProgress x s.recipient.told) at holds.marked (ap is_none is))

  holds_starved : Holds starved
  holds_starved = record {
    terms = holds.terms;
    parts = record { count = on_next.count; limit = on_next.limit; seats = on_next.seats; ends = on_next.ends; few = on_next.few };
    looked = subst (λ (d : plain.Donor). s.looked ≤ length d.binlog) (sym lends.0.donor) holds.looked;
    short = subst (λ (d : plain.Donor). AllByRecursion IsShort d.binlog) (sym lends.0.donor) holds.short;
    unstopped = donors.unstopped_next s begun disturbed doubted shown t w false false s.alone refl same floor lends.0 lends.1 holds goes;
    sizes = λ runs. absurd (true≢false (sym runs));
    marked = λ runs. absurd (true≢false (sym runs));
    goes_on = λ honest runs. absurd (true≢false (sym runs));
    talks = λ told honest runs. absurd (true≢false (sym runs));
    steady = λ going. absurd (going tt);
    keeps = record {
      blank_before = λ none. absurd (let e : over (end_of last) ≡ absent = none in cc);
      commits = keeps.commits;
      drops = keeps.drops;
      holds = λ ended sure. starved_ended was refl sure;
    };
  }

  -- ---- as the calls answer it, with the stop that is noted
  module _ (stop : Option session.Stop) (noted : stop ≡ stop_by SESSION s.stop t) where
    abbrev After : State
    After = world_of (record (with_copying c.reception n (record s { donor = t })) { stop = stop }) begun disturbed doubted shown

    after_is : new ≡ After
    after_is = ap (λ (o : Option session.Stop). world_of (record (with_copying c.reception n (record s { donor = t })) { stop = o }) begun disturbed doubted shown) (sym noted)

    happens_so : (r : State) → old ≡ r → Happens r (acts (lines.Serve connection) (donor_changes s t) (texts.step_text says)) After
    happens_so r is =
        subst (λ (x : State). Happens x (acts (lines.Serve connection) (donor_changes s t) (texts.step_text says)) After) is
        (subst (λ (x : State). Happens old (acts (lines.Serve connection) (donor_changes s t) (texts.step_text says)) x) after_is happens)

    pub serve_made : (r : State) → old ≡ r → Acts (lines.Serve connection) r (texts.step_text says) After
    serve_made r is = (donor_changes s t, happens_so r is)

    pub serve_kept : (says ≡ step.Served served.NoMemory → ⊥) → (IsSome s.donor.engine.disk.told → IsServer s.donor) → (IsSome t.engine.disk.told → IsServer t) → Holds After
    serve_kept memory before after = subst Holds after_is (holds_next memory before after)

    -- memory ran out in it, and the reception is as the call leaves it
    module _ (q : Reception) (so : q ≡ ended_at_last c.reception) where
      abbrev Starved : State
      Starved = world_of (record (with_copying q n (record s { donor = t })) { stop = stop }) begun disturbed doubted shown

      starved_is : starved ≡ Starved
      starved_is = λ i. world_of (record (with_copying (sym so i) n (record s { donor = t })) { stop = sym noted i }) begun disturbed doubted shown

      pub serve_untold : (r : State) → old ≡ r → ActsUntold (lines.Serve connection) r Starved
      serve_untold r is = subst (λ (x : State). ActsUntold (lines.Serve connection) x Starved) is (subst (ActsUntold (lines.Serve connection) old) starved_is (starves was refl))

      pub serve_starved : Holds Starved
      serve_starved = subst Holds starved_is holds_starved

    -- ---- what is left
    pub serve_left : (r : State) → old ≡ r → ForSome t.cloning.session HasNumbers → DonorLeaves (is_idle says) r After
    serve_left r is numbers = subst (λ (x : State). DonorLeaves (is_idle says) x After) is (by says refl)
      where
        before : donor_left old ≡ donor_work s.donor c.network
        before = ap (left_for_donor s.donor) at

        same_tasks : tasks_left After ≡ tasks_left old
        same_tasks = ap left_for_tasks (sym at)

        less : (says ≡ step.Served served.Idle → ⊥) → (tasks_left After ≡ tasks_left old) × (donor_left After < donor_left old)
        less not = (same_tasks, subst (λ (x : ℕ). donor_work t n < x) (sym before) (donor_busy s.donor t c.network n connection says numbers not steps))

        by : (answer : DonorStep) → says ≡ answer → DonorLeaves (is_idle answer) old After
        by (step.Served served.Idle) heard = (same_tasks, subst (λ (x : ℕ). donor_work t n ≤ x) (sym before) (donor_rests s.donor t c.network n connection (step.Served served.Idle) numbers (subst (StepsDonor gives s.donor t connection c.network n) heard steps)))
        by step.Lost heard = less (λ no. absurd (let e : step.Lost ≡ step.Served served.Idle = sym heard ∙ no in cc))
        by (step.Served other) heard = less (λ no. absurd (let e : step.Served other ≡ step.Served served.Idle = sym heard ∙ no in cc))
