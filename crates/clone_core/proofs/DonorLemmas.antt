-- A CALL OF A CLONE on the donor, whoever makes it: what changes of the clone, and what holds after
-- it.
use Rattle.std.proofs.Common.{◌≡◌, ◌∙◌, ◌≤◌, ◌&&◌, ◌++◌, ◌∷◌, ◌⊎◌, [], ℕ, List, Bool, true, false, not, if◌then◌else◌, refl, sym, ap, subst, arith, Option, Some, None, is_some, length, MatchOption, inl, inr}
use Rattle.std.specs.Prelude.{is_none}
use Rattle.std.specs.Option.{ForSome, IfSome, option_map, option_or}
use Rattle.std.specs.FinMap as finite
use Rattle.std.specs.Ordering.{nat_cmp}
use Rattle.std.proofs.lemmas.Bool.{true≢false}
use Rattle.std.specs.List.{AllByRecursion}
use Rattle.clone_follow.specs.Binlog.{IsShort}
use Rattle.clone_plain.specs.Donor as plain
use Rattle.clone_session.specs.declared.info.Stop as session
use Rattle.clone_tasks.specs.declared.end.CloneEnd as tasks
use Rattle.clone_engine.specs.Donor as staged
use Rattle.clone_engine.specs.Engine.{Engine}
use Rattle.clone_sides.specs.Moment.{IsStopOf, own_stop}
use Rattle.clone_joined.specs.Joined.{IsJoined}
use Rattle.clone_joined.specs.Lending.{Lends, StopsNow}
use Rattle.clone_joined.specs.Runs.{HasCome, HasFloor, stop_by}
use Rattle.clone_events.specs.World.{Clone, Progress, Stop, absent, copying, over, HasEnded, IsHonest, stop_now}
use Rattle.clone_events.specs.Events.{AreNow, Change, ComesToStop, HasReached, ShowsChanges, ShowsIn, acknowledges, changed_all, changed_in, crowds, disturbs, ends, stops}
use Rattle.clone_events.proofs.BinlogLemmas.{adds_none}
use Rattle.clone_core.specs.declared.world.Course.{Course}
use Rattle.clone_core.specs.declared.world.Course.TheVariants as course_as
use Rattle.clone_core.specs.declared.world.TheConstants.{SESSION}
use Rattle.clone_core.specs.System.{System, donor_of, tell}
use Rattle.clone_core.specs.Acting.{crowding, disturbing, donor_changes, stop_changes, stop_of, with_donor}
use Rattle.clone_core.specs.CloneEvents.{Changes}
use Rattle.clone_core.specs.Copied.{GoOnTalking, GoesOn, Holds, KeepsClone, KnowsItsSizes, SaysInProgress, floor_of, progress_by, progress_of, world_of}
use Rattle.clone_core.specs.Ending.{is_over}
use Rattle.clone_core.specs.Lines.{State}
use Rattle.clone_core.specs.Parts.{OnTerms}
use Rattle.clone_core.proofs.KeepLemmas.{AreWithin, StopsOn, first, kept_longer, still}

-- ---- what a change makes of a clone

-- somebody had a hand in it, unless it had ended
abbrev pub disturbed_by : Bool → Progress → Bool → Bool
disturbed_by acts p disturbed = if acts && not (is_over p) then true else disturbed

-- and the donor is alone with it, unless another session stands before it has ended
abbrev pub alone_in : Bool → Progress → Bool → Bool
alone_in crowded p alone = if crowded && not (is_over p) then false else alone

module _ (clone : Clone) where
  disturbed_clone : (p : Progress) (acts : Bool) → clone.progress ≡ p → changed_all (disturbing acts) clone ≡ record clone { disturbed = disturbed_by acts p clone.disturbed }
  disturbed_clone p false is = refl
  disturbed_clone absent true is = ap (λ (q : Progress). changed_in q disturbs clone) is
  disturbed_clone copying true is = ap (λ (q : Progress). changed_in q disturbs clone) is
  disturbed_clone (over how) true is = ap (λ (q : Progress). changed_in q disturbs clone) is

  crowded_clone : (p : Progress) (crowded : Bool) → clone.progress ≡ p → changed_all (crowding crowded) clone ≡ record clone { alone = alone_in crowded p clone.alone }
  crowded_clone p false is = refl
  crowded_clone absent true is = ap (λ (q : Progress). changed_in q crowds clone) is
  crowded_clone copying true is = ap (λ (q : Progress). changed_in q crowds clone) is
  crowded_clone (over how) true is = ap (λ (q : Progress). changed_in q crowds clone) is

  -- a stop is noted however the clone stands
  noted : (p : Progress) (at : Stop) → changed_in p (stops at) clone ≡ record clone { stop = Some at }
  noted absent at = refl
  noted copying at = refl
  noted (over how) at = refl

stopped_clone : (clone : Clone) (stop own : Option session.Stop) → clone.stop ≡ option_map stop_of stop → changed_all (stop_changes stop own) clone ≡ record clone { stop = option_map stop_of (option_or stop own) }
stopped_clone clone None None is = ap (λ (o : Option Stop). record clone { stop = o }) is
stopped_clone clone None (Some at) is = noted clone clone.progress (stop_of at)
stopped_clone clone (Some stop) own is = ap (λ (o : Option Stop). record clone { stop = o }) is

pub changes_join : (clone : Clone) (xs ys : List Change) → changed_all (xs ++ ys) clone ≡ changed_all ys (changed_all xs clone)
changes_join clone [] ys = refl
changes_join clone (x ∷ xs) ys = changes_join (changed_in clone.progress x clone) xs ys

pub shows_join : (d : plain.Donor) (clone : Clone) (xs ys : List Change) → ShowsChanges d clone xs → ShowsChanges d (changed_all xs clone) ys → ShowsChanges d clone (xs ++ ys)
shows_join d clone [] ys is on = on
shows_join d clone (x ∷ xs) ys is on = (is.0, shows_join d (changed_in clone.progress x clone) xs ys is.1 on)

pub now_join : (d : plain.Donor) (xs ys : List Change) → AreNow d xs → AreNow d ys → AreNow d (xs ++ ys)
now_join d [] ys is on = on
now_join d (stops at ∷ xs) ys is on = (is.0, now_join d xs ys is.1 on)
now_join d (acknowledges ∷ xs) ys is on = now_join d xs ys is on
now_join d (disturbs ∷ xs) ys is on = now_join d xs ys is on
now_join d (crowds ∷ xs) ys is on = now_join d xs ys is on
now_join d (ends how ∷ xs) ys is on = now_join d xs ys is on

disturbing_now : (d : plain.Donor) (acts : Bool) → AreNow d (disturbing acts)
disturbing_now d true = tt
disturbing_now d false = tt

disturbing_shows : (d : plain.Donor) (clone : Clone) (acts : Bool) → ShowsChanges d clone (disturbing acts)
disturbing_shows d clone false = tt
disturbing_shows d clone true = (by clone.progress, tt)
  where
    by : (p : Progress) → ShowsIn p d clone disturbs
    by absent = tt
    by copying = tt
    by (over how) = tt

crowding_now : (d : plain.Donor) (crowded : Bool) → AreNow d (crowding crowded)
crowding_now d true = tt
crowding_now d false = tt

crowding_shows : (d : plain.Donor) (clone : Clone) (crowded : Bool) → ShowsChanges d clone (crowding crowded)
crowding_shows d clone false = tt
crowding_shows d clone true = (by clone.progress, tt)
  where
    by : (p : Progress) → ShowsIn p d clone crowds
    by absent = tt
    by copying = tt
    by (over how) = tt

stop_is_now : (number : ℕ) (e : Engine) (at : session.Stop) → IsStopOf number e at → stop_of at ≡ stop_now e.donor
stop_is_now number e at is = λ i. record { position = is.commits i; drops = is.drops i }

-- ---- THE CALL

module _ (s : System) (begun : finite.FinMap nat_cmp ℕ) (disturbed doubted shown : Bool) (t : staged.Donor) (w : Course) (acts crowded alone : Bool) (alone_is : alone ≡ alone_in crowded (progress_of s.course) s.alone) (same : progress_of w ≡ progress_of s.course) (floor : floor_of w ≡ floor_of s.course)
    (lends : Lends s.donor t) (now : StopsNow SESSION s.donor t) (holds : Holds (world_of s begun disturbed doubted shown)) where
  abbrev old : State
  old = world_of s begun disturbed doubted shown

  abbrev next : System
  next = record (with_donor t s) { course = w; alone = alone }

  abbrev new : State
  new = world_of next begun (disturbed_by acts (progress_of s.course) disturbed) doubted shown

  abbrev own : Option session.Stop
  own = own_stop SESSION t.cloning.stop

  abbrev all : List Change
  all = disturbing acts ++ (crowding crowded ++ donor_changes s t)

  told_now : tell next ≡ tell s
  told_now = ap (λ b. b && is_some s.recipient.told) lends.disk.tells

  abbrev touched : Clone
  touched = record old.clone { disturbed = disturbed_by acts (progress_of s.course) disturbed }

  abbrev middle : Clone
  middle = record touched { alone = alone }

  new_is : new.clone ≡ record middle { stop = option_map stop_of (option_or s.stop own) }
  new_is = λ i. record middle { progress = same i; floor = floor i; stop = option_map stop_of (option_or s.stop own) }

  middle_is : middle ≡ changed_all (crowding crowded) touched
  middle_is = (λ i. record touched { alone = alone_is i }) ∙ sym (crowded_clone touched (progress_of s.course) crowded refl)

  touched_is : touched ≡ changed_all (disturbing acts) old.clone
  touched_is = sym (disturbed_clone old.clone (progress_of s.course) acts refl)

  clone_is : new.clone ≡ changed_all all old.clone
  clone_is =
      new_is ∙ sym (stopped_clone middle s.stop own refl)
      ∙ ap (changed_all (donor_changes s t)) middle_is
      ∙ sym (changes_join touched (crowding crowded) (donor_changes s t))
      ∙ ap (changed_all (crowding crowded ++ donor_changes s t)) touched_is
      ∙ sym (changes_join old.clone (disturbing acts) (crowding crowded ++ donor_changes s t))

  plain_same : donor_of next ≡ donor_of s
  plain_same = lends.donor

  module _ (goes : IsHonest new.clone → GoesOn next w) where
    reached_in : (v : Course) → w ≡ v → (at : session.Stop) → s.stop ≡ None → own ≡ Some at → (HasEnded new.clone.progress → ⊥) → IsHonest new.clone → MatchOption (floor_of v) ⊥ (λ n. n ≤ at.position)
    reached_in course_as.Absent is at none some goes_on honest =
        let come : HasCome SESSION None (stop_by SESSION s.stop t) t = subst (GoesOn next) is (goes honest) in
        let (kept, there, low) = subst (λ (o : Option session.Stop). IfSome o (λ (x : session.Stop). HasFloor None x.position)) (ap (λ (o : Option session.Stop). option_or o own) none ∙ some) come.1.behind in
        absurd (let both : None ≡ Some kept = there in cc)
    reached_in course_as.Unbegun is at none some goes_on honest = absurd (goes_on (subst HasEnded (sym (ap progress_of is)) tt))
    reached_in (course_as.Begun c) is at none some goes_on honest = by c.reception.table.ended refl
      where
        by : (e : Option tasks.CloneEnd) → c.reception.table.ended ≡ e → MatchOption c.reception.table.floor ⊥ (λ n. n ≤ at.position)
        by (Some how) over_is = absurd (goes_on (subst HasEnded (sym (ap progress_of is ∙ ap progress_by over_is)) tt))
        by None runs =
            let j : IsJoined SESSION (stop_by SESSION s.stop t) t c.reception s.recipient.told c.network = subst (GoesOn next) is (goes honest) (ap is_none runs) in
            let (kept, there, low) = subst (λ (o : Option session.Stop). IfSome o (λ (x : session.Stop). HasFloor c.reception.table.floor x.position)) (ap (λ (o : Option session.Stop). option_or o own) none ∙ some) j.run.behind in
            subst (λ (o : Option ℕ). MatchOption o ⊥ (λ n. n ≤ at.position)) (sym there) low

    comes : (at : session.Stop) → s.stop ≡ None → own ≡ Some at → ComesToStop (donor_of s) middle (stop_of at)
    comes at none some =
        let is = now at (holds.unstopped none) some in
        record { first = ap (option_map stop_of) none; commits = omega (arith, is.commits); drops = omega (arith, is.drops) }

    shows_stop : (p : Progress) → old.clone.progress ≡ p → (stop other : Option session.Stop) → s.stop ≡ stop → own ≡ other → ShowsChanges (donor_of s) middle (stop_changes stop other)
    shows_stop p is None None none some = tt
    shows_stop p is (Some at) other none some = tt
    shows_stop p is None (Some at) none some = (subst (λ (q : Progress). ShowsIn q (donor_of s) middle (stops (stop_of at))) (sym is) (by p is), tt)
      where
        going : (p ≡ absent) ⊎ (p ≡ copying) → IsHonest middle → HasReached middle at.position
        going which honest = subst (λ (o : Option ℕ). MatchOption o ⊥ (λ n. n ≤ at.position)) floor (reached_in w refl at none some (λ ended. unended which (subst HasEnded (same ∙ is) ended)) honest)
          where
            unended : (p ≡ absent) ⊎ (p ≡ copying) → HasEnded p → ⊥
            unended (inl e) ended = subst HasEnded e ended
            unended (inr e) ended = subst HasEnded e ended

        by : (q : Progress) → old.clone.progress ≡ q → ShowsIn q (donor_of s) middle (stops (stop_of at))
        by absent e = (comes at none some, going (inl (sym is ∙ e)))
        by copying e = (comes at none some, going (inr (sym is ∙ e)))
        by (over how) e = comes at none some

    stop_now_is : (stop other : Option session.Stop) → s.stop ≡ stop → own ≡ other → AreNow (donor_of s) (stop_changes stop other)
    stop_now_is None None none some = tt
    stop_now_is (Some at) other none some = tt
    stop_now_is None (Some at) none some = (stop_is_now SESSION s.donor.engine at (now at (holds.unstopped none) some), tt)

    -- WHAT CHANGES of the clone
    pub changed : Changes all old new
    changed = record {
      begun = refl;
      tells = told_now;
      tasks = refl;
      plain = plain_same;
      now = now_join (donor_of s) (disturbing acts) (crowding crowded ++ donor_changes s t) (disturbing_now (donor_of s) acts)
          (now_join (donor_of s) (crowding crowded) (donor_changes s t) (crowding_now (donor_of s) crowded) (stop_now_is s.stop own refl refl));
      shows = shows_join (donor_of s) old.clone (disturbing acts) (crowding crowded ++ donor_changes s t) (disturbing_shows (donor_of s) old.clone acts)
          (subst (λ (x : Clone). ShowsChanges (donor_of s) x (crowding crowded ++ donor_changes s t)) touched_is
          (shows_join (donor_of s) touched (crowding crowded) (donor_changes s t) (crowding_shows (donor_of s) touched crowded)
          (subst (λ (x : Clone). ShowsChanges (donor_of s) x (donor_changes s t)) middle_is (shows_stop old.clone.progress refl s.stop own refl refl))));
      clone = clone_is;
    }

    stop_on : (stop other : Option session.Stop) → StopsOn (option_map stop_of stop) (option_map stop_of (option_or stop other))
    stop_on None None = still
    stop_on None (Some at) = first (stop_of at) refl
    stop_on (Some at) other = still

    within : (stop other : Option session.Stop) → s.stop ≡ stop → own ≡ other → AreWithin (donor_of s) (option_map stop_of (option_or stop other))
    within None None none some = (λ at is. absurd (let e : None ≡ Some at = is in cc), λ at is. absurd (let e : None ≡ Some at = is in cc))
    within (Some at) other none some = (
      subst (λ (o : Option session.Stop). ForSome (option_map stop_of o) (λ x. x.position ≤ length (donor_of s).binlog)) none holds.keeps.commits,
      subst (λ (o : Option session.Stop). ForSome (option_map stop_of o) (λ x. x.drops ≤ length (donor_of s).drops)) none holds.keeps.drops,
    )
    within None (Some at) none some =
        let is = comes at none some in (
          λ x e. subst (λ (y : Stop). y.position ≤ length (donor_of s).binlog) (same_some (stop_of at) x e) is.commits,
          λ x e. subst (λ (y : Stop). y.drops ≤ length (donor_of s).drops) (same_some (stop_of at) x e) is.drops,
        )
      where
        same_some : (a b : Stop) → ◌≡◌ {A = Option Stop} (Some a) (Some b) → a ≡ b
        same_some a b e = cc

    honest_before : (p : Progress) (b : Bool) → disturbed_by b p disturbed ≡ false → disturbed ≡ false
    honest_before p b is = by (b && not (is_over p)) is
      where
        by : (x : Bool) → (if x then true else disturbed) ≡ false → disturbed ≡ false
        by true is = absurd (true≢false is)
        by false is = is

    pub keeps_next : KeepsClone (donor_of next) new.tells new.clone s.recipient.told
    keeps_next = kept_longer (donor_of s) (donor_of next) [] (adds_none (donor_of s) (donor_of next) (ap (λ (d : plain.Donor). d.binlog) plain_same) (ap (λ (d : plain.Donor). d.drops) plain_same))
        old.tells new.tells told_now old.clone new.clone s.recipient.told same refl refl (honest_before (progress_of s.course) acts) (stop_on s.stop own)
        (subst (λ (d : plain.Donor). AreWithin d new.clone.stop) (sym plain_same) (within s.stop own refl refl)) holds.keeps

    pub unstopped_next : next.stop ≡ None → own ≡ None
    unstopped_next none = second_none s.stop own none
      where
        second_none : (a b : Option session.Stop) → option_or a b ≡ None → b ≡ None
        second_none None b is = is
        second_none (Some x) b is = absurd (let e : Some x ≡ None = is in cc)

    -- WHAT HOLDS THEN
    pub holds_next : OnTerms s.terms w → KnowsItsSizes next w → SaysInProgress w s.recipient.told → (new.tells ≡ true → IsHonest new.clone → GoOnTalking next w) → Holds new
    holds_next parts sizes marked talks = record {
      terms = holds.terms;
      parts = parts;
      looked = subst (λ (d : plain.Donor). s.looked ≤ length d.binlog) (sym plain_same) holds.looked;
      short = subst (λ (d : plain.Donor). AllByRecursion IsShort d.binlog) (sym plain_same) holds.short;
      unstopped = unstopped_next;
      sizes = sizes;
      marked = marked;
      goes_on = goes;
      talks = talks;
      steady = λ going. holds.steady (λ ended. going (subst HasEnded (sym same) ended));
      keeps = keeps_next;
    }
