-- A STEP OF A TASK in a world: what happens by it, and what holds after it.
use Rattle.std.proofs.Common.{◌≡◌, ◌∙◌, ◌≤◌, ◌<◌, ◌&&◌, ◌++◌, ◌∷◌, ◌⊎◌, [], ℕ, List, Bool, true, false, refl, sym, ap, subst, arith, Option, Some, None, is_some, MatchOption, inl, inr, IsSome}
use Rattle.std.specs.Option.{option_map}
use Rattle.std.specs.Prelude.{is_none}
use Rattle.std.specs.FinMap as finite
use Rattle.std.specs.Ordering.{nat_cmp}
use Rattle.std.proofs.lemmas.Bool.{true≢false}
use Rattle.clone_outside.specs.Disk.{DiskImage, ForTold}
use Rattle.clone_outside.specs.DiskCalls.{Alters, DiskState}
use Rattle.clone_model.specs.History.{Entry, fold}
use Rattle.clone_model.specs.History.{Drops, history_of}
use Rattle.clone_model.specs.declared.change.Commit.{Commit}
use Rattle.std.specs.Prelude.{take}
use Rattle.clone_plain.specs.Donor as plain
use Rattle.clone_plain.specs.Donor.{history}
use Rattle.clone_staged.specs.Holds.{HoldsCopy}
use Rattle.clone_script.specs.declared.lines.Line.TheVariants as lines
use Rattle.clone_session.specs.declared.info.Stop as session
use Rattle.clone_tasks.specs.Tables.{is_running}
use Rattle.clone_tasks.specs.declared.end.CloneEnd as tasks
use Rattle.clone_tasks.specs.declared.end.CloneEnd.TheVariants as ends_as
use Rattle.clone_recipient.specs.Receptions.{AreCounted, Reception}
use Rattle.clone_fetch.specs.Fetching.{KnowsSizes}
use Rattle.clone_fetch.specs.declared.answer.TaskAnswer.{TaskAnswer}
use Rattle.clone_fetch.specs.declared.answer.TaskAnswer.TheVariants as task
use Rattle.clone_network.specs.Networks.{Network, StepsTask}
use Rattle.clone_network.specs.Courses.{ended_then}
use Rattle.clone_network.proofs.CourseLemmas.{course}
use Rattle.clone_engine.specs.Donor as staged
use Rattle.clone_engine.specs.Engine.{Engine}
use Rattle.clone_answers.specs.StepTexts as texts
use Rattle.clone_sides.specs.Moment.{HasGoneOn}
use Rattle.clone_joined.specs.Joined.{HoldsAt, IsCloned, IsInProgress, IsJoined, IsLeft, IsUnfinished}
use Rattle.clone_joined.proofs.ClonedLemmas.{joined_completes}
use Rattle.clone_joined.proofs.JoinedLemmas.{joined_task}
use Rattle.clone_joined.proofs.LeftLemmas.{joined_ends}
use Rattle.clone_events.specs.World.{Clone, End, Stop, absent, copying, over, HasEnded, IsHonest, IsSure, before_stop}
use Rattle.clone_events.specs.Events.{Change, Completes, IsComplete, IsFairEnd, ShowsChanges, ShowsEnd, acts, changed_all}
use Rattle.clone_core.specs.declared.world.Copying.{Copying}
use Rattle.clone_core.specs.declared.world.Course.{Course}
use Rattle.clone_core.specs.declared.world.Course.TheVariants as course_as
use Rattle.clone_core.specs.declared.world.TheConstants.{SESSION}
use Rattle.clone_core.specs.System.{System, donor_of, tell}
use Rattle.clone_core.specs.Acting.{ActsTask, OnCopying, end_of, stop_of, with_copying}
use Rattle.clone_core.specs.Copied.{GoOnTalking, GoesOn, Holds, HoldsEnded, HoldsStop, IsIncomplete, SaysInProgress, floor_of, progress_by, progress_of, world_of}
use Rattle.clone_core.specs.Lines.{State, Happens}
use Rattle.clone_core.specs.Parts.{IsOnTerms, OnTerms}
use Rattle.std.specs.Prelude.{unwrap_or}
use Rattle.clone_tasks.specs.Tables.{IsBounded}
use Rattle.clone_talk.specs.Talking.{EndsFairly}
use Rattle.clone_talk.proofs.TaskTalks.{ends_talk, task_talks}
use Rattle.clone_network.specs.Courses.{IsFloor}
use Rattle.clone_ending.specs.Left.{work_left}
use Rattle.clone_ending.specs.Service.{donor_work}
use Rattle.clone_ending.proofs.QuietLemmas.{quiet_network}
use Rattle.clone_ending.proofs.StepLemmas.{outcome_less, outcome_same, step_outcome}
use Rattle.clone_events.specs.World.{broken}
use Rattle.clone_events.specs.Events.{Event, ends, recipient_fault}
use Rattle.clone_core.specs.Acting.{floor_changes}
use Rattle.clone_core.specs.CloneEvents.{Acts, ActsUntold, ended_at_last}
use Rattle.clone_core.specs.Left.{TasksLeave, donor_left, is_quiet, left_for_donor, left_for_tasks, tasks_left}
use Rattle.clone_core.proofs.ChangeLemmas as changes
use Rattle.clone_core.proofs.ChangeLemmas.{EndsNot, Kind, Steps, changes_of, clone_at, kind_of}
use Rattle.clone_core.proofs.KeepLemmas.{for_told}
use Rattle.clone_core.proofs.PartLemmas.{copying as copying_as, task_on}
use Rattle.clone_core.proofs.RestLemmas.{task_marked, task_rests}

running_of : (ended : Option tasks.CloneEnd) → ended ≡ None → is_none ended ≡ true
running_of ended is = ap is_none is

not_running : (ended : Option tasks.CloneEnd) (how : tasks.CloneEnd) → ended ≡ Some how → is_none ended ≡ false
not_running ended how is = ap is_none is

-- what a step changes of the clone
pub steps_so : (r s : Reception) (d e : DiskState) (n m : Network) (number looked : ℕ) (says : TaskAnswer) → StepsTask number looked r s d e n m says → Steps says r.table.ended s.table.ended r.table.floor s.table.floor looked
steps_so r s d e n m number looked says steps =
    let is = course r s d e n m number looked says steps in
    record {
      ended = is.ended;
      floor = is.floor;
      rests = λ how was. let over = not_running r.table.ended how was in (
        ap (λ (x : Reception). x.table.floor) (task_rests r s d e n m number looked says over steps).0,
        λ other heard. true≢false (sym (is.once other heard) ∙ over),
      );
    }

none_of : (ended : Option tasks.CloneEnd) → is_none ended ≡ true → ended ≡ None
none_of None is = refl
none_of (Some how) is = absurd (true≢false (sym is))

-- a clone that goes on went on before
ran : (says : TaskAnswer) (was now : Option tasks.CloneEnd) → now ≡ ended_then says was → now ≡ None → was ≡ None
ran says was now is none = by says was (sym is ∙ none)
  where
    by : (says : TaskAnswer) (was : Option tasks.CloneEnd) → ended_then says was ≡ None → was ≡ None
    by (task.Ended how) was is = absurd (let e : Some how ≡ None = is in cc)
    by task.Idle was is = is
    by task.Stale was is = is
    by (task.Sent code) was is = is
    by (task.Took took) was is = is
    by (task.Lost losses) was is = is
    by task.NoMemory was is = is

begun_not : (ended : Option tasks.CloneEnd) → progress_by ended ≡ absent → ⊥
begun_not None is = absurd (let e : copying ≡ absent = is in cc)
begun_not (Some how) is = absurd (let e : over (end_of how) ≡ absent = is in cc)

-- ---- the disk of a clone that ends

-- the history before a stop, of a donor that has gone on from it
before_of : (stop : session.Stop) (was now : plain.Donor) → HasGoneOn stop was now → history was ≡ before_stop (stop_of stop) now
before_of stop was now on =
    ap (λ (b : List Commit). history_of b was.drops) (sym on.commits) ∙ ap (λ (d : Drops). history_of (take stop.position now.binlog) d) (sym on.drops)

holds_stop : (stop : session.Stop) (d : staged.Donor) (at : Engine) (m : DiskImage) → HasGoneOn stop at.donor d.engine.donor → HoldsCopy m (fold (history at.donor)) stop.position → HoldsStop d.engine.donor (stop_of stop) m
holds_stop stop d at m on holds = subst (λ (h : List Entry). HoldsCopy m (fold h) stop.position) (before_of stop at.donor d.engine.donor on) holds

abbrev HoldsIts : staged.Donor → Option session.Stop → DiskImage → Type 0
HoldsIts d stop m = MatchOption (option_map stop_of stop) ⊥ (λ (s : Stop). HoldsStop d.engine.donor s m)

cloned_holds : (stop : Option session.Stop) (d : staged.Donor) (floor : Option ℕ) (told : Option DiskImage) (position : ℕ) → IsSome d.engine.disk.told → IsCloned SESSION stop d floor told position → ForTold told (HoldsIts d stop)
cloned_holds stop d floor told position tells is =
    for_told told (λ m. HoldsCopy m (fold (history is.at.donor)) position) (HoldsIts d stop)
    (λ m holds. subst (λ (o : Option session.Stop). HoldsIts d o m) (sym is.is)
    (holds_stop is.first d is.at m is.gone_on (subst (λ (p : ℕ). HoldsCopy m (fold (history is.at.donor)) p) is.position_is holds))) (is.holds tells)

left_in : (stop : Option session.Stop) (d : staged.Donor) (m : DiskImage) → IsUnfinished SESSION m ⊎ MatchOption stop ⊥ (λ first. HoldsAt first d m) → IsIncomplete m ⊎ HoldsIts d stop m
left_in stop d m (inl marked) = inl (inr marked)
left_in None d m (inr held) = absurd held
left_in (Some first) d m (inr held) = inr (holds_stop first d held.at m held.gone_on held.holds)

left_holds : (stop : Option session.Stop) (d : staged.Donor) (told : Option DiskImage) → IsSome d.engine.disk.told → IsLeft SESSION stop d told → ForTold told (λ m. IsIncomplete m ⊎ HoldsIts d stop m)
left_holds stop d told tells is = for_told told _ (λ m. IsIncomplete m ⊎ HoldsIts d stop m) (λ m. left_in stop d m) (is tells)

-- ---- a complete clone

reached_by : (stop : Option session.Stop) (d : staged.Donor) (floor : Option ℕ) (told : Option DiskImage) (position : ℕ) (clone : Clone) → clone.stop ≡ option_map stop_of stop → clone.floor ≡ floor → IsCloned SESSION stop d floor told position → Completes clone position
reached_by stop d floor told position clone stop_is floor_is is =
    let (kept, there, low) = is.reached in
    record {
      stop = subst (λ (o : Option Stop). MatchOption o ⊥ (λ (at : Stop). position ≡ at.position)) (sym (stop_is ∙ ap (option_map stop_of) is.is)) is.position_is;
      floor = subst (λ (o : Option ℕ). MatchOption o ⊥ (λ n. n ≤ position)) (sym (floor_is ∙ there)) low;
    }

both_tell : (a b : Bool) → (a && b) ≡ true → a ≡ true
both_tell true b is = refl
both_tell false b is = is

-- ---- THE STEP

module _ (s : System) (begun : finite.FinMap nat_cmp ℕ) (disturbed doubted shown : Bool) (c : Copying) (at : s.course ≡ course_as.Begun c) (number : ℕ) (r : Reception) (n : Network) (disk : DiskState) (says : TaskAnswer) (steps : StepsTask number s.looked c.reception r s.recipient disk c.network n says)
    (tells_on : is_some disk.told ≡ is_some s.recipient.told) (holds : Holds (world_of s begun disturbed doubted shown)) where
  abbrev old : State
  old = world_of s begun disturbed doubted shown

  abbrev next : System
  next = with_copying r n (record s { recipient = disk })

  abbrev new : State
  new = world_of next begun disturbed doubted shown

  abbrev was : Option tasks.CloneEnd
  was = c.reception.table.ended

  abbrev before : Option ℕ
  before = c.reception.table.floor

  kind : Kind says was r.table.ended before r.table.floor s.looked
  kind = kind_of says r.table.ended before r.table.floor s.looked was (steps_so c.reception r s.recipient disk c.network n number s.looked says steps)

  -- the clone as it was
  old_is : old.clone ≡ clone_at old.clone was before
  old_is = ap (λ (w : Course). record old.clone { progress = progress_of w; floor = floor_of w }) at

  joined : IsHonest old.clone → is_running c.reception.table ≡ true → IsJoined SESSION s.stop s.donor c.reception s.recipient.told c.network
  joined honest = subst (GoesOn s) at (holds.goes_on honest)

  told_now : tell next ≡ tell s
  told_now = ap (λ b. is_some s.donor.engine.disk.told && b) tells_on

  donor_tells : old.tells ≡ true → IsSome s.donor.engine.disk.told
  donor_tells told = both_tell (is_some s.donor.engine.disk.told) (is_some s.recipient.told) told

  -- a clone that is complete by this step
  completes : IsHonest old.clone → was ≡ None → (lsn position : ℕ) → says ≡ task.Ended (ends_as.Complete lsn position) → IsCloned SESSION s.stop s.donor r.table.floor disk.told position
  completes honest first lsn position heard =
      joined_completes SESSION s.stop s.donor c.reception r s.recipient disk c.network n number s.looked lsn position says (omega arith) (joined honest (running_of was first)) steps heard

  shows_end : (how : tasks.CloneEnd) → was ≡ None → r.table.floor ≡ before → says ≡ task.Ended how → ShowsEnd (clone_at old.clone None before) (end_of how)
  shows_end (ends_as.Complete lsn position) first floor heard = λ honest. reached_by s.stop s.donor r.table.floor disk.told position (clone_at old.clone None before) refl (sym floor) (completes honest first lsn position heard)
  shows_end (ends_as.Spent losses) first floor heard = tt
  shows_end (ends_as.Garbled bytes) first floor heard = tt
  shows_end (ends_as.Refused cause) first floor heard = tt
  shows_end ends_as.DiskFault first floor heard = tt

  abbrev all_changes : List Change
  all_changes = changes_of says before r.table.floor

  clone_is : new.clone ≡ changed_all all_changes old.clone
  clone_is = changes.became old.clone says was r.table.ended before r.table.floor (donor_of s) kind ∙ ap (changed_all all_changes) (sym old_is)

  acts_so : Alters (says ≡ task.Ended ends_as.DiskFault) s.recipient disk → ActsTask number c s next all_changes (texts.task_text says)
  acts_so works = record { reception = r; network = n; recipient = disk; says = says; steps = steps; works = works; is = refl; changed = refl; answers = refl }

  -- how it ends, over honest connections
  fair_end : old.tells ≡ true → (how : tasks.CloneEnd) → was ≡ None → says ≡ task.Ended how → IsFairEnd old.clone (end_of how)
  fair_end told how first heard = by how (λ honest.
      ends_talk s.alone s.donor c.reception r s.recipient disk c.network n number s.looked how (subst (GoOnTalking s) at (holds.talks told honest) (running_of was first)) (running_of was first) (subst (StepsTask number s.looked c.reception r s.recipient disk c.network n) heard steps))
    where
      by : (e : tasks.CloneEnd) → (IsHonest old.clone → EndsFairly s.alone e) → IsFairEnd old.clone (end_of e)
      by (ends_as.Complete lsn position) is = tt
      by (ends_as.Spent losses) is = tt
      by (ends_as.Garbled bytes) is = λ honest. is honest
      by (ends_as.Refused cause) is = λ honest alone. true≢false (sym alone ∙ is honest)
      by ends_as.DiskFault is = tt

  -- WHAT HAPPENS
  pub happens : Alters (says ≡ task.Ended ends_as.DiskFault) s.recipient disk → Happens old (acts (lines.Task number) all_changes (texts.task_text says)) new
  happens works = record {
    step = subst (λ (w : Course). OnCopying (ActsTask number) w s next all_changes (texts.task_text says)) (sym at) (acts_so works);
    begun = refl;
    clone = record {
      now = changes.are_now old.clone says was r.table.ended before r.table.floor (donor_of s) kind;
      shows = (
        subst (λ (x : Clone). ShowsChanges (donor_of s) x all_changes) (sym old_is) (changes.shows old.clone says was r.table.ended before r.table.floor (donor_of s) kind shows_end),
        changes.tells_end old.clone says was r.table.ended before r.table.floor (donor_of s) kind,
        λ told. changes.ends_fairly old.clone says was r.table.ended before r.table.floor (donor_of s) kind (fair_end told),
      );
      is = clone_is;
    };
    tells = told_now;
    tasks = refl;
    sees = λ told. tt;
  }

  pub task_made : (r0 : State) → old ≡ r0 → Alters (says ≡ task.Ended ends_as.DiskFault) s.recipient disk → Acts (lines.Task number) r0 (texts.task_text says) new
  task_made r0 is works = (all_changes, subst (λ (x : State). Happens x (acts (lines.Task number) all_changes (texts.task_text says)) new) is (happens works))

  -- ---- WHAT HOLDS THEN, while there is memory

  same_disk : (how : tasks.CloneEnd) → was ≡ Some how → disk ≡ s.recipient
  same_disk how is = (task_rests c.reception r s.recipient disk c.network n number s.looked says (not_running was how is) steps).1

  same_end : (how : tasks.CloneEnd) → was ≡ Some how → r.table.ended ≡ was
  same_end how is = ap (λ (x : Reception). x.table.ended) (task_rests c.reception r s.recipient disk c.network n number s.looked says (not_running was how is) steps).0

  progress_was : old.clone.progress ≡ progress_by was
  progress_was = ap progress_of at

  -- it had ended before
  ended_before : (how : tasks.CloneEnd) → was ≡ Some how → IsSure (tell next) new.clone → ForTold disk.told (HoldsEnded (donor_of s) new.clone)
  ended_before how is sure =
      let same : new.clone.progress ≡ old.clone.progress = ap progress_by (same_end how is) ∙ sym progress_was in
      let P : Option DiskImage → Type 0 = λ o. ForTold o (HoldsEnded (donor_of s) new.clone) in
      subst P (ap (λ (d : DiskState). d.told) (sym (same_disk how is)))
      (for_told s.recipient.told (HoldsEnded (donor_of s) old.clone) (HoldsEnded (donor_of s) new.clone)
      (λ m e. record { whole = λ whole. e.whole (subst IsComplete same whole); other = e.other; shown = e.shown })
      (holds.keeps.holds (subst HasEnded (sym (progress_was ∙ ap progress_by is)) tt) (record { told = sym told_now ∙ sure.told; honest = sure.honest; steady = sure.steady })))

  -- it ends by this step
  not_shown : was ≡ None → shown ≡ false
  not_shown first = (holds.steady (λ ended. subst HasEnded (progress_was ∙ ap progress_by first) ended)).1

  ends_other : (e : End) → (IsComplete (over e) → ⊥) → IsSure (tell next) new.clone → was ≡ None → new.clone.progress ≡ over e → ForTold disk.told (HoldsEnded (donor_of s) new.clone)
  ends_other e not sure first is =
      for_told disk.told (λ m. IsIncomplete m ⊎ HoldsIts s.donor s.stop m) (HoldsEnded (donor_of s) new.clone)
      (λ m left. record { whole = λ whole. absurd (not (subst IsComplete is whole)); other = left; shown = λ was_shown. absurd (true≢false (sym was_shown ∙ not_shown first)) })
      (left_holds s.stop s.donor disk.told (donor_tells (sym told_now ∙ sure.told))
      (joined_ends SESSION s.stop s.donor c.reception r s.recipient disk c.network n number s.looked says (omega arith) (joined sure.honest (running_of was first)) steps))

  ends_whole : (lsn position : ℕ) → says ≡ task.Ended (ends_as.Complete lsn position) → IsSure (tell next) new.clone → was ≡ None → ForTold disk.told (HoldsEnded (donor_of s) new.clone)
  ends_whole lsn position heard sure first =
      for_told disk.told (HoldsIts s.donor s.stop) (HoldsEnded (donor_of s) new.clone)
      (λ m held. record { whole = λ whole. held; other = inr held; shown = λ was_shown. absurd (true≢false (sym was_shown ∙ not_shown first)) })
      (cloned_holds s.stop s.donor r.table.floor disk.told position (donor_tells (sym told_now ∙ sure.told)) (completes sure.honest first lsn position heard))

  ends_now : (how : tasks.CloneEnd) → says ≡ task.Ended how → r.table.ended ≡ Some how → was ≡ None → IsSure (tell next) new.clone → ForTold disk.told (HoldsEnded (donor_of s) new.clone)
  ends_now (ends_as.Complete lsn position) heard is first sure = ends_whole lsn position heard sure first
  ends_now (ends_as.Spent losses) heard is first sure = ends_other _ (λ no. no) sure first (ap progress_by is)
  ends_now (ends_as.Garbled bytes) heard is first sure = ends_other _ (λ no. no) sure first (ap progress_by is)
  ends_now (ends_as.Refused cause) heard is first sure = ends_other _ (λ no. no) sure first (ap progress_by is)
  ends_now ends_as.DiskFault heard is first sure = ends_other _ (λ no. no) sure first (ap progress_by is)

  holds_by : Kind says was r.table.ended before r.table.floor s.looked → HasEnded new.clone.progress → IsSure (tell next) new.clone → ForTold disk.told (HoldsEnded (donor_of s) new.clone)
  holds_by (changes.nothing none same floor) ended sure = by_was was refl
    where
      by_was : (w : Option tasks.CloneEnd) → was ≡ w → ForTold disk.told (HoldsEnded (donor_of s) new.clone)
      by_was None is = absurd (subst (λ (e : Option tasks.CloneEnd). HasEnded (progress_by e)) (same ∙ is) ended)
      by_was (Some how) is = ended_before how is sure
  holds_by (changes.acknowledged some first then none floor) ended sure = absurd (subst (λ (e : Option tasks.CloneEnd). HasEnded (progress_by e)) then ended)
  holds_by (changes.ended how some first then floor heard) ended sure = ends_now how heard then first sure

  -- while it goes on, its disk says so
  marked_next : (says ≡ task.NoMemory → ⊥) → is_running r.table ≡ true → ForTold disk.told (IsInProgress SESSION)
  marked_next memory runs = task_marked c.reception r s.recipient disk c.network n number s.looked says steps memory goes (was_marked (ran says was r.table.ended (steps_so c.reception r s.recipient disk c.network n number s.looked says steps).ended goes))
    where
      goes : r.table.ended ≡ None
      goes = none_of r.table.ended runs

      was_marked : was ≡ None → ForTold s.recipient.told (IsInProgress SESSION)
      was_marked first = subst (λ (w : Course). SaysInProgress w s.recipient.told) at holds.marked (running_of was first)

  -- the clone stays on its terms
  on_next : IsOnTerms s.terms (copying_as r n)
  on_next = task_on s.terms c.reception r s.recipient disk c.network n number s.looked says holds.terms.tasks.1 (subst (OnTerms s.terms) at holds.parts) steps

  -- WHAT HOLDS THEN
  pub holds_next : AreCounted c.reception.table.phase c.reception → IsBounded r.table → AreCounted r.table.phase r → (says ≡ task.NoMemory → ⊥) → KnowsSizes r disk → Holds new
  holds_next counted bounded counted_then memory sizes = record {
    terms = holds.terms;
    parts = on_next;
    looked = holds.looked;
    short = holds.short;
    unstopped = holds.unstopped;
    sizes = sizes;
    marked = marked_next memory;
    goes_on = λ honest runs. joined_task SESSION s.stop s.donor c.reception r s.recipient disk c.network n number s.looked says counted
        (joined honest (running_of was (ran says was r.table.ended (steps_so c.reception r s.recipient disk c.network n number s.looked says steps).ended (none_of r.table.ended runs)))) steps memory runs;
    talks = λ told honest runs.
        let first = none_of r.table.ended runs in
        let going = running_of was (ran says was r.table.ended (steps_so c.reception r s.recipient disk c.network n number s.looked says steps).ended first) in
        task_talks s.alone s.donor c.reception r s.recipient disk c.network n number s.looked says (subst (GoOnTalking s) at (holds.talks (sym told_now ∙ told) honest) going) going bounded counted_then holds.looked steps memory runs;
    steady = λ goes. holds.steady (λ ended. goes (still_ended was refl ended));
    keeps = record {
      blank_before = λ none. absurd (begun_not r.table.ended none);
      commits = holds.keeps.commits;
      drops = holds.keeps.drops;
      holds = λ ended sure. holds_by kind ended sure;
    };
  }
    where
      still_ended : (w : Option tasks.CloneEnd) → was ≡ w → HasEnded old.clone.progress → HasEnded new.clone.progress
      still_ended None is ended = absurd (subst HasEnded (progress_was ∙ ap progress_by is) ended)
      still_ended (Some how) is ended = subst (λ (e : Option tasks.CloneEnd). HasEnded (progress_by e)) (sym (same_end how is ∙ is)) tt

  -- ---- MEMORY RAN OUT in it, which ends the clone

  abbrev failed : System
  failed = with_copying (ended_at_last r) n (record s { recipient = disk })

  abbrev starved : State
  starved = world_of failed begun disturbed doubted shown

  abbrev last : tasks.CloneEnd
  last = unwrap_or r.table.ended ends_as.DiskFault

  -- what it changes of a clone that goes on
  abbrev untold_changes : List Change
  untold_changes = floor_changes before r.table.floor ++ ends broken ∷ []

  abbrev untold : Event
  untold = acts (lines.Task number) untold_changes recipient_fault

  floor_is : IsFloor s.looked says before r.table.floor
  floor_is = (course c.reception r s.recipient disk c.network n number s.looked says steps).floor

  starves : (w : Option tasks.CloneEnd) → was ≡ w → r.table.ended ≡ was → ActsUntold (lines.Task number) old starved
  starves (Some how) is same_as =
      let rests = task_rests c.reception r s.recipient disk c.network n number s.looked says (not_running was how is) steps in
      let floor : r.table.floor ≡ before = ap (λ (x : Reception). x.table.floor) rests.0 in
      let ended : Some last ≡ was = ap (λ (e : Option tasks.CloneEnd). Some (unwrap_or e ends_as.DiskFault)) (same_as ∙ is) ∙ sym is in
      let clone : starved.clone ≡ old.clone = ap (λ (e : Option tasks.CloneEnd). clone_at old.clone e r.table.floor) ended ∙ ap (clone_at old.clone was) floor ∙ sym old_is in
      ([], [], record { donor = refl; begun = refl; tells = told_now; tasks = refl; clone = (record { now = tt; shows = (tt, tt, λ told. tt); is = refl }, clone) })
  starves None is same_as =
      let ended : Some last ≡ Some ends_as.DiskFault = ap (λ (e : Option tasks.CloneEnd). Some (unwrap_or e ends_as.DiskFault)) (same_as ∙ is) in
      let shape : old.clone ≡ clone_at old.clone None before = old_is ∙ ap (λ (e : Option tasks.CloneEnd). clone_at old.clone e before) is in
      let clone : starved.clone ≡ changed_all untold_changes old.clone =
      ap (λ (e : Option tasks.CloneEnd). clone_at old.clone e r.table.floor) ended ∙ changes.starved_clone old.clone says before r.table.floor floor_is ∙ ap (changed_all untold_changes) (sym shape) in (
        untold_changes,
        recipient_fault,
        record {
          donor = refl;
          begun = refl;
          tells = told_now;
          tasks = refl;
          clone = (
            record {
              now = changes.starved_now old.clone says before r.table.floor (donor_of s) floor_is;
              shows = (
                subst (λ (x : Clone). ShowsChanges (donor_of s) x untold_changes) (sym shape) (changes.starved_shows old.clone says before r.table.floor (donor_of s) floor_is),
                changes.starved_tells old.clone says before r.table.floor floor_is,
                λ told. changes.starved_fair old.clone says before r.table.floor old.clone floor_is,
              );
              is = refl;
            },
            clone,
          );
        },
      )

  -- the disk of a clone that ended so
  starved_holds : (w : Option tasks.CloneEnd) → was ≡ w → r.table.ended ≡ was → IsSure (tell failed) starved.clone → ForTold disk.told (HoldsEnded (donor_of s) starved.clone)
  starved_holds (Some how) is same_as sure =
      let same : starved.clone.progress ≡ old.clone.progress = ap (λ (e : Option tasks.CloneEnd). progress_by (Some (unwrap_or e ends_as.DiskFault))) (same_as ∙ is) ∙ sym (progress_was ∙ ap progress_by is) in
      let P : Option DiskImage → Type 0 = λ o. ForTold o (HoldsEnded (donor_of s) starved.clone) in
      subst P (ap (λ (d : DiskState). d.told) (sym (same_disk how is)))
      (for_told s.recipient.told (HoldsEnded (donor_of s) old.clone) (HoldsEnded (donor_of s) starved.clone)
      (λ m e. record { whole = λ whole. e.whole (subst IsComplete same whole); other = e.other; shown = e.shown })
      (holds.keeps.holds (subst HasEnded (sym (progress_was ∙ ap progress_by is)) tt) (record { told = sym told_now ∙ sure.told; honest = sure.honest; steady = sure.steady })))
  starved_holds None is same_as sure =
      for_told disk.told (λ m. IsIncomplete m ⊎ HoldsIts s.donor s.stop m) (HoldsEnded (donor_of s) starved.clone)
      (λ m left. record { whole = λ whole. absurd (subst IsComplete (ap (λ (e : Option tasks.CloneEnd). progress_by (Some (unwrap_or e ends_as.DiskFault))) (same_as ∙ is)) whole); other = left; shown = λ was_shown. absurd (true≢false (sym was_shown ∙ not_shown is)) })
      (left_holds s.stop s.donor disk.told (donor_tells (sym told_now ∙ sure.told))
      (joined_ends SESSION s.stop s.donor c.reception r s.recipient disk c.network n number s.looked says (omega arith) (joined sure.honest (running_of was is)) steps))

  module _ (out : says ≡ task.NoMemory) where
    same_as : r.table.ended ≡ was
    same_as = (steps_so c.reception r s.recipient disk c.network n number s.looked says steps).ended ∙ ap (λ (a : TaskAnswer). ended_then a was) out

    -- the reception as the call leaves it
    pub task_untold : (r0 : State) → old ≡ r0 → (q : Reception) → q ≡ ended_at_last r → ActsUntold (lines.Task number) r0 (world_of (with_copying q n (record s { recipient = disk })) begun disturbed doubted shown)
    task_untold r0 is q so =
        subst (λ (x : Reception). ActsUntold (lines.Task number) r0 (world_of (with_copying x n (record s { recipient = disk })) begun disturbed doubted shown)) (sym so)
        (subst (λ (x : State). ActsUntold (lines.Task number) x starved) is (starves was refl same_as))

    pub holds_starved : Holds starved
    holds_starved = record {
      terms = holds.terms;
      parts = record { count = on_next.count; limit = on_next.limit; seats = on_next.seats; ends = on_next.ends; few = on_next.few };
      looked = holds.looked;
      short = holds.short;
      unstopped = holds.unstopped;
      sizes = λ runs. absurd (true≢false (sym runs));
      marked = λ runs. absurd (true≢false (sym runs));
      goes_on = λ honest runs. absurd (true≢false (sym runs));
      talks = λ told honest runs. absurd (true≢false (sym runs));
      steady = λ goes. absurd (goes tt);
      keeps = record {
        blank_before = λ none. absurd (let e : over (end_of last) ≡ absent = none in cc);
        commits = holds.keeps.commits;
        drops = holds.keeps.drops;
        holds = λ ended sure. starved_holds was refl same_as sure;
      };
    }

  -- ---- what is left
  pub task_left : (r0 : State) → old ≡ r0 → IsBounded c.reception.table → IsBounded r.table → (says ≡ task.NoMemory → ⊥) → TasksLeave (is_quiet says) r0 new
  task_left r0 is bounded after memory = subst (λ (x : State). TasksLeave (is_quiet says) x new) is (by says refl)
    where
      tasks_were : tasks_left old ≡ work_left c.reception.table
      tasks_were = ap left_for_tasks at

      donor_was : donor_left old ≡ donor_work s.donor c.network
      donor_was = ap (left_for_donor s.donor) at

      quiet : (a : TaskAnswer) → says ≡ a → (a ≡ task.Idle) ⊎ (a ≡ task.Stale) → (tasks_left new ≡ tasks_left old) × (donor_left new ≡ donor_left old)
      quiet a heard (inl idle) =
          let so = subst (StepsTask number s.looked c.reception r s.recipient disk c.network n) (heard ∙ idle) steps in
          let rests = quiet_network c.reception r s.recipient disk c.network n number s.looked task.Idle refl so in
          (ap (λ (x : Reception). work_left x.table) (outcome_same c.reception r task.Idle refl (step_outcome c.reception r s.recipient disk c.network n number s.looked task.Idle so)) ∙ sym tasks_were, ap (donor_work s.donor) rests.1 ∙ sym donor_was)
      quiet a heard (inr stale) =
          let so = subst (StepsTask number s.looked c.reception r s.recipient disk c.network n) (heard ∙ stale) steps in
          let rests = quiet_network c.reception r s.recipient disk c.network n number s.looked task.Stale refl so in
          (ap (λ (x : Reception). work_left x.table) (outcome_same c.reception r task.Stale refl (step_outcome c.reception r s.recipient disk c.network n number s.looked task.Stale so)) ∙ sym tasks_were, ap (donor_work s.donor) rests.1 ∙ sym donor_was)

      less : (says ≡ task.Idle → ⊥) → (says ≡ task.Stale → ⊥) → tasks_left new < tasks_left old
      less idle stale = subst (λ (x : ℕ). work_left r.table < x) (sym tasks_were) (outcome_less c.reception r says bounded after (step_outcome c.reception r s.recipient disk c.network n number s.looked says steps) idle stale memory)

      by : (a : TaskAnswer) → says ≡ a → TasksLeave (is_quiet a) old new
      by task.Idle heard = quiet task.Idle heard (inl refl)
      by task.Stale heard = quiet task.Stale heard (inr refl)
      by (task.Sent code) heard = less (λ e. absurd (let f : task.Sent code ≡ task.Idle = sym heard ∙ e in cc)) (λ e. absurd (let f : task.Sent code ≡ task.Stale = sym heard ∙ e in cc))
      by (task.Took took) heard = less (λ e. absurd (let f : task.Took took ≡ task.Idle = sym heard ∙ e in cc)) (λ e. absurd (let f : task.Took took ≡ task.Stale = sym heard ∙ e in cc))
      by (task.Lost losses) heard = less (λ e. absurd (let f : task.Lost losses ≡ task.Idle = sym heard ∙ e in cc)) (λ e. absurd (let f : task.Lost losses ≡ task.Stale = sym heard ∙ e in cc))
      by (task.Ended how) heard = less (λ e. absurd (let f : task.Ended how ≡ task.Idle = sym heard ∙ e in cc)) (λ e. absurd (let f : task.Ended how ≡ task.Stale = sym heard ∙ e in cc))
      by task.NoMemory heard = absurd (memory heard)
