-- A clone begins, or a fault ends it at once: what happens, and what holds of the world then.
use Rattle.std.proofs.Common.{◌≡◌, [], ◌∷◌, ◌&&◌, ◌⊎◌, inl, inr, ℕ, Bool, true, false, refl, sym, ap, ◌∙◌, subst, Option, Some, None, is_some}
use Rattle.std.specs.Prelude.{is_none, not, option_map}
use Rattle.std.specs.FinMap as finite
use Rattle.std.specs.Ordering.{nat_cmp}
use Rattle.std.proofs.lemmas.Option.{same_Some}
use Rattle.clone_outside.specs.Causes.{Rose}
use Rattle.clone_outside.specs.Disk.{DiskImage, ForTold, IsBeforeOrAfter, Steps, blank}
use Rattle.clone_outside.specs.DiskCalls.{Alters, DiskState}
use Rattle.clone_outside.specs.declared.mark.Mark.TheVariants.{InProgress}
use Rattle.clone_lay.specs.Marked.{marked}
use Rattle.clone_lay.specs.Sized.{AreSizes}
use Rattle.clone_recipient.specs.Receptions.{IsNotEmpty, begun}
use Rattle.clone_tasks.specs.declared.end.CloneEnd.{CloneEnd}
use Rattle.clone_network.specs.Networks.{unconnected}
use Rattle.clone_engine.specs.Disks.{Visits}
use Rattle.clone_joined.specs.Joined.{IsInProgress}
use Rattle.clone_joined.specs.Runs.{HasCome}
use Rattle.clone_joined.proofs.JoinedLemmas.{joined_begins}
use Rattle.clone_events.specs.World.{absent, broken, copying, over, HasEnded}
use Rattle.clone_events.specs.Events.{to_begin, started, unbegun, occupied, again, idle}
use Rattle.clone_core.specs.declared.world.Copying.{Copying}
use Rattle.clone_core.specs.declared.world.Course.{Course}
use Rattle.clone_core.specs.declared.world.Course.TheVariants as course
use Rattle.clone_core.specs.declared.world.TheConstants.{SESSION}
use Rattle.clone_core.specs.System.{System, donor_of, tell}
use Rattle.clone_core.specs.Lines.{Happens, State}
use Rattle.clone_core.specs.CloneEvents.{EndsUntold}
use Rattle.clone_core.specs.Copied.{GoOnTalking, GoesOn, Holds, HoldsEnded, KnowsItsSizes, SaysInProgress, floor_of, progress_by, progress_of, world_of}
use Rattle.clone_session.specs.Cloning.{Session}
use Rattle.clone_talk.proofs.TaskTalks.{begins_talk}
use Rattle.clone_core.proofs.PartLemmas.{begins_on}

pub alters_visits : {Faulty : Type 0} (old new : DiskState) → Alters Faulty old new → Visits old new
alters_visits old new alters = record { later = alters.later; orders = alters.orders; tells = alters.tells }

not_both : {b : Bool} → b ≡ false → b ≡ true → ⊥
not_both is other = let e : true ≡ false = sym other ∙ is in cc

progress_begun : (o : Option CloneEnd) → progress_by o ≡ absent → ⊥
progress_begun None none = let e = none in cc
progress_begun (Some how) none = let e = none in cc

course_begun : (c : Course) → (c ≡ course.Absent → ⊥) → progress_of c ≡ absent → ⊥
course_begun course.Absent not none = not refl
course_begun course.Unbegun not none = let e = none in cc
course_begun (course.Begun k) not none = progress_begun k.reception.table.ended none

-- by the number that is told of it
pub free_is : (o : Option Session) (result : Bool) (told : Option ℕ) → told ≡ option_map (λ (s : Session). s.number) o → is_some told ≡ not result → result ≡ is_none o
free_is None true told is answers = refl
free_is None false told is answers = absurd (let e : false ≡ true = sym (ap is_some is) ∙ answers in cc)
free_is (Some s) true told is answers = absurd (let e : true ≡ false = sym (ap is_some is) ∙ answers in cc)
free_is (Some s) false told is answers = refl

none_there : (o : Option Session) → is_none o ≡ true → o ≡ None
none_there None is = refl
none_there (Some s) is = absurd (let e : false ≡ true = is in cc)

-- one began before
pub started_before : (c : Course) (s : State) → s.clone.progress ≡ progress_of c → (c ≡ course.Absent → ⊥) → Happens s (again to_begin idle) s
started_before c s has before = record { step = refl; begun = refl; clone = record { now = tt; shows = (λ none. course_begun c before (sym has ∙ none), refl); is = refl }; tells = refl; tasks = refl; sees = λ _. tt }

-- there was no memory for the connections
pub nothing_begun : (s : State) → EndsUntold (λ events. events ≡ unbegun ∷ []) s s
nothing_begun s = ([], unbegun ∷ [], refl, record { donor = refl; begun = refl; tells = refl; tasks = refl; clone = refl })

-- A world in which no clone was begun, and the recipient's disk is asked.
module _ (s : System) (counts : finite.FinMap nat_cmp ℕ) (disturbed doubted shown : Bool) (new : DiskState) (none : s.course ≡ course.Absent) (visits : Visits s.recipient new) where
  abbrev before : State
  before = world_of s counts disturbed doubted shown

  abbrev after : Course → State
  after next = world_of (record s { recipient = new; course = next }) counts disturbed doubted shown

  absent_before : before.clone.progress ≡ absent
  absent_before = ap progress_of none

  tells_same : (is_some s.donor.engine.disk.told && is_some new.told) ≡ tell s
  tells_same = ap (λ b. is_some s.donor.engine.disk.told && b) visits.tells

  no_floor : None ≡ before.clone.floor
  no_floor = sym (ap floor_of none)

  unended : HasEnded before.clone.progress → ⊥
  unended ended = subst HasEnded absent_before ended

  -- ---- it begins

  abbrev as_begun : Copying
  as_begun = record { reception = begun SESSION s.terms.tasks s.terms.limit s.terms.version; network = unconnected s.terms.tasks }

  -- the donor has no session yet, or has one
  abbrev free : Bool
  free = is_none s.donor.cloning.session

  abbrev begins : State
  begins = world_of (record s { recipient = new; course = course.Begun as_begun; alone = free }) counts disturbed doubted shown

  begun_happens : Steps s.recipient.told new.told (marked (InProgress SESSION)) → Happens before (started free) begins
  begun_happens marks = record {
    step = record { absent = none; visits = visits; marks = marks; free = refl; is = refl };
    begun = refl;
    clone = record { now = tt; shows = absent_before; is = ap (λ (floor : Option ℕ). record before.clone { progress = copying; floor = floor; alone = free }) no_floor };
    tells = tells_same;
    tasks = refl;
    sees = λ _. tt;
  }

  -- as it is begun
  module _ (k : Copying) (alone : Bool) (same : k ≡ as_begun) (alone_is : alone ≡ free) where
    abbrev made : State
    made = world_of (record s { recipient = new; course = course.Begun k; alone = alone }) counts disturbed doubted shown

    made_is : made ≡ begins
    made_is = λ i. world_of (record s { recipient = new; course = course.Begun (same i); alone = alone_is i }) counts disturbed doubted shown

    pub starts : (r : State) → before ≡ r → Steps s.recipient.told new.told (marked (InProgress SESSION)) → Happens r (started alone) made
    starts r is marks =
        subst (λ (w : State). Happens w (started alone) made) is
        (subst (λ (b : Bool). Happens before (started b) made) (sym alone_is) (subst (λ (w : State). Happens before (started free) w) (sym made_is) (begun_happens marks)))

  module _ (held : Holds before) where
    pub blank_before : ForTold s.recipient.told (λ m. m ≡ blank)
    blank_before = held.keeps.blank_before absent_before

    -- a disk that gets the mark has it
    has_mark : (o p : Option DiskImage) → Steps o p (marked (InProgress SESSION)) → ForTold p (IsInProgress SESSION)
    has_mark o None is = tt
    has_mark None (Some n) is = absurd (let e = is in cc)
    has_mark (Some m) (Some n) is = ap (λ (x : DiskImage). x.mark) (same_Some n (marked (InProgress SESSION) m) is)

    begun_holds : Steps s.recipient.told new.told (marked (InProgress SESSION)) → ForTold new.told (AreSizes as_begun.reception.sizes) → Holds begins
    begun_holds marks sizes = record {
      terms = held.terms;
      parts = begins_on SESSION s.terms held.terms.tasks.1;
      looked = held.looked;
      short = held.short;
      unstopped = held.unstopped;
      sizes = λ running. sizes;
      marked = λ running. has_mark s.recipient.told new.told marks;
      goes_on = λ honest running.
          let come : HasCome SESSION None s.stop s.donor = subst (GoesOn s) none (held.goes_on honest) in
          joined_begins SESSION s.terms.tasks s.terms.limit s.terms.version s.terms.tasks s.stop s.donor s.recipient.told new.told come blank_before marks;
      talks = λ told honest running.
          let was = subst (GoOnTalking s) none (held.talks (sym tells_same ∙ told) honest) in
          begins_talk free SESSION s.terms.tasks s.terms.limit s.terms.version s.donor held.terms.tasks.0 held.terms.tasks.1 held.terms.version.0 held.terms.version.1 held.terms.limit was.0 was.1 (none_there s.donor.cloning.session);
      steady = λ going. held.steady unended;
      keeps = record { blank_before = λ is. absurd (let e = is in cc); commits = held.keeps.commits; drops = held.keeps.drops; holds = λ ended sure. absurd ended };
    }

    pub starts_holds : (k : Copying) (alone : Bool) (same : k ≡ as_begun) (alone_is : alone ≡ free) → Steps s.recipient.told new.told (marked (InProgress SESSION)) → ForTold new.told (AreSizes k.reception.sizes) → Holds (made k alone same alone_is)
    starts_holds k alone same alone_is marks sizes =
        subst Holds (sym (made_is k alone same alone_is))
        (begun_holds marks (subst (λ (c : Copying). ForTold new.told (AreSizes c.reception.sizes)) same sizes))

    -- ---- a fault ended it, or memory ran out

    -- the disk is blank still, or has the mark of a copy in progress
    partial_ended : (m n : DiskImage) → m ≡ blank → (n ≡ m) ⊎ (n ≡ marked (InProgress SESSION) m) → HoldsEnded (donor_of s) (after course.Unbegun).clone n
    partial_ended m n empty is = record {
      whole = λ complete. absurd complete;
      other = inl (elim is [
        | inl same ↦ inl (ap (λ (x : DiskImage). x.mark) (same ∙ empty))
        | inr begins ↦ inr (inl (ap (λ (x : DiskImage). x.mark) begins))
      ]);
      shown = λ is_shown. absurd (not_both (held.steady unended).1 is_shown);
    }

    told_either : (o p : Option DiskImage) → ForTold o (λ m. m ≡ blank) → IsBeforeOrAfter o p (marked (InProgress SESSION)) → ForTold p (HoldsEnded (donor_of s) (after course.Unbegun).clone)
    told_either o None empty is = tt
    told_either None (Some n) empty (inl same) = absurd (let e = same in cc)
    told_either None (Some n) empty (inr begins) = absurd (let e = begins in cc)
    told_either (Some m) (Some n) empty (inl same) = partial_ended m n empty (inl (same_Some n m same))
    told_either (Some m) (Some n) empty (inr begins) = partial_ended m n empty (inr (same_Some n (marked (InProgress SESSION) m) begins))

    pub breaks_holds : IsBeforeOrAfter s.recipient.told new.told (marked (InProgress SESSION)) → Holds (after course.Unbegun)
    breaks_holds partial = record {
      terms = held.terms;
      parts = tt;
      looked = held.looked;
      short = held.short;
      unstopped = held.unstopped;
      sizes = tt;
      marked = tt;
      goes_on = λ honest. tt;
      talks = λ told honest. tt;
      steady = λ going. absurd (going tt);
      keeps = record {
        blank_before = λ is. absurd (let e = is in cc);
        commits = held.keeps.commits;
        drops = held.keeps.drops;
        holds = λ ended sure. told_either s.recipient.told new.told blank_before partial;
      };
    }

    -- ---- somebody has written to the disk

    not_told : (o : Option DiskImage) → ForTold o (λ m. m ≡ blank) → ForTold o IsNotEmpty → is_some o ≡ true → ⊥
    not_told None empty not is = let e = is in cc
    not_told (Some m) empty not is = elim not [
      | inl spaces ↦ spaces (ap (λ (x : DiskImage). x.spaces) empty)
      | inr mark ↦ mark (ap (λ (x : DiskImage). x.mark) empty)
    ]

    told_too : (a b : Bool) → (a && b) ≡ true → b ≡ true
    told_too true b is = is
    told_too false b is = let e = is in cc

    pub occupies : (r : State) → before ≡ r → ForTold s.recipient.told IsNotEmpty → Happens r occupied (after s.course)
    occupies r is not =
        subst (λ (w : State). Happens w occupied (after s.course)) is
        (record {
          step = record { others = refl; recipient = visits };
          begun = refl;
          clone = record { now = tt; shows = (absent_before, λ tells. not_told s.recipient.told blank_before not (told_too (is_some s.donor.engine.disk.told) (is_some s.recipient.told) tells)); is = refl };
          tells = tells_same;
          tasks = refl;
          sees = λ _. tt;
        })

    pub occupied_holds : new.told ≡ s.recipient.told → Holds (after s.course)
    occupied_holds same = record {
      terms = held.terms;
      parts = held.parts;
      looked = held.looked;
      short = held.short;
      unstopped = held.unstopped;
      sizes = subst (λ (c : Course). KnowsItsSizes (record s { recipient = new; course = s.course }) c) (sym none) tt;
      marked = subst (λ (c : Course). SaysInProgress c new.told) (sym none) tt;
      goes_on = λ honest. subst (GoesOn (record s { recipient = new; course = s.course })) (sym none) (subst (GoesOn s) none (held.goes_on honest));
      talks = λ told honest. subst (GoOnTalking (record s { recipient = new; course = s.course })) (sym none) (subst (GoOnTalking s) none (held.talks (sym tells_same ∙ told) honest));
      steady = held.steady;
      keeps = record {
        blank_before = λ is. subst (λ (o : Option DiskImage). ForTold o (λ m. m ≡ blank)) (sym same) blank_before;
        commits = held.keeps.commits;
        drops = held.keeps.drops;
        holds = λ ended sure. absurd (unended ended);
      };
    }

  unbegun_is : (after course.Unbegun).clone ≡ record before.clone { progress = over broken }
  unbegun_is = ap (λ (floor : Option ℕ). record before.clone { progress = over broken; floor = floor }) no_floor

  pub breaks : (r : State) → before ≡ r → Rose s.recipient.failures new.failures → Happens r unbegun (after course.Unbegun)
  breaks r is rose =
      subst (λ (w : State). Happens w unbegun (after course.Unbegun)) is
      (record {
        step = record { absent = none; visits = visits; rose = rose; is = refl };
        begun = refl;
        clone = record { now = tt; shows = absent_before; is = unbegun_is };
        tells = tells_same;
        tasks = refl;
        sees = λ _. tt;
      })

  pub breaks_untold : (r : State) → before ≡ r → EndsUntold (λ events. events ≡ unbegun ∷ []) r (after course.Unbegun)
  breaks_untold r is =
      subst (λ (w : State). EndsUntold (λ events. events ≡ unbegun ∷ []) w (after course.Unbegun)) is
      (unbegun ∷ [], [], refl, record { donor = refl; begun = refl; tells = tells_same; tasks = refl; clone = (record { now = tt; shows = absent_before; is = refl }, unbegun_is) })
