-- What is looked up and what is archived beside a clone, and rows before a clone has ended.
use Rattle.std.proofs.Common.{◌≡◌, ℕ, Bool, length, arith, true, false, refl, sym, ap, ◌∙◌, subst, Option, Some, None, is_none, is_some, Result, Ok, IfOk, nat_cmp}
use Rattle.std.specs.FinMap as finite
use Rattle.std.specs.declared.alloc.AllocError.{AllocError}
use Rattle.clone_outside.specs.Disk.{DiskImage, ForTold, blank}
use Rattle.clone_outside.specs.Mark.{mark_bytes}
use Rattle.clone_calls.specs.declared.answer.DonorAnswer.TheVariants as gives
use Rattle.clone_calls.specs.declared.call.DonorCall.TheVariants as ask
use Rattle.clone_plain.specs.Answers.{Text}
use Rattle.clone_recover.specs.Restores.{IsIncomplete, unmarked, under_way}
use Rattle.clone_tasks.specs.declared.end.CloneEnd as tasks
use Rattle.clone_engine.specs.Acts as act
use Rattle.clone_engine.specs.Acts.{CloneActs}
use Rattle.clone_engine.specs.Answering.{StaysAside}
use Rattle.clone_engine.specs.Donor as staged
use Rattle.clone_engine.specs.Engine.{Engine}
use Rattle.clone_joined.specs.Joined.{IsInProgress}
use Rattle.clone_events.specs.Events as plain
use Rattle.clone_events.specs.Events.{looked, archived, incomplete, event_text, Happens}
use Rattle.clone_core.specs.declared.world.Copying.{Copying}
use Rattle.clone_core.specs.declared.world.Course.{Course}
use Rattle.clone_core.specs.declared.world.Course.TheVariants as course
use Rattle.clone_core.specs.declared.world.TheConstants.{SESSION}
use Rattle.clone_core.specs.Copied.{Holds, HoldsEnded, KnowsItsSizes, GoOnTalking, GoesOn, SaysInProgress, progress_by, progress_of, world_of}
use Rattle.clone_core.specs.Ending.{is_over}
use Rattle.clone_core.specs.Steps.{SystemStep}
use Rattle.clone_core.specs.System.{System, donor_of}
use Rattle.clone_core.specs.Lines.{State}
use Rattle.clone_core.specs.Called.{Stays}
use Rattle.clone_core.proofs.ActingLemmas.{same_visits}
use Rattle.clone_core.proofs.CallLemmas.{with_donor, IsShown, same_tells}
use Rattle.clone_core.proofs.HoldsLemmas.{spares}
use Rattle.clone_core.proofs.KeepLemmas.{for_told}
use Rattle.clone_core.proofs.LineLemmas.{said_is}

-- ---- a clone that hasn't ended

-- it wasn't begun, or goes on
pub data Unended : Course → Type 0 where
  absent_yet : Unended course.Absent
  goes : (c : Copying) → is_none c.reception.table.ended ≡ true → Unended (course.Begun c)

unended_by : (c : Copying) (how : Option tasks.CloneEnd) → c.reception.table.ended ≡ how → is_over (progress_by how) ≡ false → Unended (course.Begun c)
unended_by c None is going = goes c (ap is_none is)
unended_by c (Some how) is going = absurd (let e : true ≡ false = going in cc)

pub unended : (way : Course) → is_over (progress_of way) ≡ false → Unended way
unended course.Absent going = absent_yet
unended course.Unbegun going = absurd (let e : true ≡ false = going in cc)
unended (course.Begun c) going = unended_by c c.reception.table.ended refl going

-- so it isn't complete
never_complete : (way : Course) → Unended way → plain.IsComplete (progress_of way) → ⊥
never_complete course.Absent absent_yet whole = whole
never_complete course.Unbegun none whole = elim none [ ]
never_complete (course.Begun c) (goes d running) whole = by c.reception.table.ended running whole
  where
    by : (how : Option tasks.CloneEnd) → is_none how ≡ true → plain.IsComplete (progress_by how) → ⊥
    by None none complete = complete
    by (Some how) none complete = let e : false ≡ true = none in cc

blank_incomplete : (m : DiskImage) → m ≡ blank → IsIncomplete m
blank_incomplete m is = unmarked (λ mark ranges has. let e : Some (mark_bytes mark) ≡ None = sym has ∙ ap (λ (x : DiskImage). x.mark) is in cc)

-- the recipient's disk has no mark yet, or that of a copy in progress
unfinished : (s : System) (begun : finite.FinMap nat_cmp ℕ) (disturbed doubted shown : Bool) (way : Course) → s.course ≡ way → Unended way → Holds (world_of s begun disturbed doubted shown) → ForTold s.recipient.told IsIncomplete
unfinished s begun disturbed doubted shown course.Absent is absent_yet holds = for_told s.recipient.told (λ m. m ≡ blank) IsIncomplete blank_incomplete (holds.keeps.blank_before (ap progress_of is))
unfinished s begun disturbed doubted shown course.Unbegun is none holds = elim none [ ]
unfinished s begun disturbed doubted shown (course.Begun c) is (goes d running) holds =
    for_told s.recipient.told (IsInProgress SESSION) IsIncomplete (λ m marked. under_way SESSION marked) (subst (λ (way : Course). SaysInProgress way s.recipient.told) is holds.marked running)

-- rows of a clone that hasn't ended
pub not_ended : (w : State) (s : System) (begun : finite.FinMap nat_cmp ℕ) (disturbed doubted shown : Bool) → world_of s begun disturbed doubted shown ≡ w → is_over (progress_of s.course) ≡ false → Holds (world_of s begun disturbed doubted shown) → Happens donor_of SystemStep w incomplete w
not_ended w s begun disturbed doubted shown is going holds =
    let P : State → Type 0 = λ v. Happens donor_of SystemStep v incomplete v in
    let none = unended s.course going in
    subst P is (record {
      step = (record { others = refl; recipient = same_visits s.recipient s.recipient refl }, unfinished s begun disturbed doubted shown s.course refl none holds);
      begun = refl;
      clone = record { now = tt; shows = λ _ whole. never_complete s.course none whole; is = refl };
      tells = refl;
      tasks = refl;
      sees = λ _. tt;
    })

-- ---- the requester looks

module _ (s : System) (position : ℕ) where
  looked_sizes : (way : Course) → KnowsItsSizes s way → KnowsItsSizes (record s { looked = position }) way
  looked_sizes course.Absent is = tt
  looked_sizes course.Unbegun is = tt
  looked_sizes (course.Begun c) is = is

  looked_goes : (way : Course) → GoesOn s way → GoesOn (record s { looked = position }) way
  looked_goes course.Absent is = is
  looked_goes course.Unbegun is = tt
  looked_goes (course.Begun c) is = is

  looked_talks : (way : Course) → GoOnTalking s way → GoOnTalking (record s { looked = position }) way
  looked_talks course.Absent is = is
  looked_talks course.Unbegun is = tt
  looked_talks (course.Begun c) is = is

  pub look_holds : (begun : finite.FinMap nat_cmp ℕ) (disturbed doubted shown : Bool) → position ≡ length (donor_of s).binlog → Holds (world_of s begun disturbed doubted shown) → Holds (world_of (record s { looked = position }) begun disturbed doubted shown)
  look_holds begun disturbed doubted shown at holds = record {
    terms = holds.terms;
    parts = holds.parts;
    looked = omega (arith, at);
    short = holds.short;
    unstopped = holds.unstopped;
    sizes = looked_sizes s.course holds.sizes;
    marked = holds.marked;
    goes_on = λ honest. looked_goes s.course (holds.goes_on honest);
    talks = λ told honest. looked_talks s.course (holds.talks told honest);
    steady = holds.steady;
    keeps = record {
      blank_before = holds.keeps.blank_before;
      commits = holds.keeps.commits;
      drops = holds.keeps.drops;
      holds = λ ended sure.
          for_told s.recipient.told (HoldsEnded (donor_of s) (world_of s begun disturbed doubted shown).clone) (HoldsEnded (donor_of s) (world_of (record s { looked = position }) begun disturbed doubted shown).clone)
          (λ m is. record { whole = is.whole; other = is.other; shown = is.shown }) (holds.keeps.holds ended (record { told = sure.told; honest = sure.honest; steady = sure.steady }));
    };
  }

  pub looks : (w : State) (begun : finite.FinMap nat_cmp ℕ) (disturbed doubted shown : Bool) → world_of s begun disturbed doubted shown ≡ w → position ≡ length (donor_of s).binlog
      → Happens donor_of SystemStep w (looked position) (world_of (record s { looked = position }) begun disturbed doubted shown)
  looks w begun disturbed doubted shown is at =
      subst (λ (v : State). Happens donor_of SystemStep v (looked position) (world_of (record s { looked = position }) begun disturbed doubted shown)) is (record {
        step = refl;
        begun = refl;
        clone = record { now = at; shows = omega (arith, at); is = refl };
        tells = refl;
        tasks = refl;
        sees = λ _. tt;
      })

-- ---- the donor archives

pub archives : (r s : State) (t : staged.Donor) (limit : ℕ) (reached : Option ℕ) → r ≡ s → IsShown r → CloneActs (ask.Archive limit) (gives.Archive (Ok reached)) r.donor.donor t → Happens donor_of SystemStep s (archived limit reached) (with_donor r t r.begun)
archives r s t limit reached is shown acts =
    let spared = spares (act.Calls (ask.Archive limit) (gives.Archive (Ok reached))) r.donor.donor t tt acts.does in
    subst (λ (w : State). Happens donor_of SystemStep w (archived limit reached) (with_donor r t r.begun)) is (record {
      step = (acts, refl);
      begun = refl;
      clone = record { now = tt; shows = tt; is = refl };
      tells = same_tells r t shown spared.tells;
      tasks = refl;
      sees = λ _. tt;
    })

-- the answer, by what came of it
pub archived_said : {A : Type 0} (bytes : A → Text) (limit : ℕ) (reached came : Option ℕ) (result said : Result A AllocError) → reached ≡ came → result ≡ said → IfOk said (λ a. bytes a ≡ event_text (archived limit came)) → IfOk result (λ a. bytes a ≡ event_text (archived limit reached))
archived_said {A} bytes limit reached came result said is same says =
    let P : Result A AllocError → Type 0 = λ r. IfOk r (λ a. bytes a ≡ event_text (archived limit reached)) in
    subst P (sym same) (said_is bytes said (event_text (archived limit came)) (event_text (archived limit reached)) (ap (λ (o : Option ℕ). event_text (archived limit o)) (sym is)) says)

-- there was no memory for it
pub not_archived : (r s : State) (t : staged.Donor) → r ≡ s → IsShown r → StaysAside r.donor.donor t → Stays s (with_donor r t r.begun)
not_archived r s t is shown does =
    subst (λ (w : State). Stays w (with_donor r t r.begun)) is (record { donor = ap (λ (e : Engine). e.donor) does.1; begun = refl; tells = same_tells r t shown (ap (λ (e : Engine). is_some e.disk.told) does.1); tasks = refl; clone = refl })
