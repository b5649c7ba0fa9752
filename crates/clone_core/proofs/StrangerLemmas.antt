-- WHAT OTHERS DO than the clone's tasks: a stranger's connection, and the donor's giving its session
-- up.
use Rattle.std.proofs.Common.{◌≡◌, ◌∙◌, ◌==◌, ◌&&◌, ◌||◌, ◌++◌, ℕ, Bool, true, false, not, if◌then◌else◌, refl, sym, ap, subst, List, ◌∷◌, Option, Some, None, IsSome, is_some, Ok}
use Rattle.std.specs.Prelude.{is_none}
use Rattle.std.specs.Option.{option_and_then, option_map, option_map_or, option_or}
use Rattle.std.specs.FinMap as finite
use Rattle.std.specs.Ordering.{nat_cmp}
use Rattle.std.proofs.lemmas.Bool.{eq-eqb, eqb-false, true≢false}
use Rattle.std.proofs.lemmas.Option.{same_Some}
use Rattle.clone_chunk.specs.declared.cause.CloneCause.{CloneCause}
use Rattle.clone_chunk.specs.declared.cause.CloneCause.TheVariants.{NoSuchSession}
use Rattle.clone_calls.specs.declared.answer.DonorAnswer.TheVariants as given
use Rattle.clone_calls.specs.declared.call.DonorCall.TheVariants as call
use Rattle.clone_session.specs.CloneCauses.{abandon_cause}
use Rattle.clone_session.specs.Cloning.{Cloning, Session}
use Rattle.clone_session.specs.declared.info.Stop as session
use Rattle.clone_sides.specs.Moment.{own_stop}
use Rattle.clone_tasks.specs.declared.end.CloneEnd as tasks
use Rattle.clone_network.specs.Connections.{Connection, StepsEnd, is_open}
use Rattle.clone_network.specs.declared.donor_step.DonorStep.{DonorStep}
use Rattle.clone_network.specs.declared.donor_step.DonorStep.TheVariants as step
use Rattle.clone_serve.specs.declared.turn.ServeAnswer.TheVariants as served
use Rattle.clone_engine.specs.Acts.{Calls, CloneActs}
use Rattle.clone_engine.specs.Donor as staged
use Rattle.clone_told.specs.Told.{gives}
use Rattle.clone_joined.specs.Lending.{Lends, StopsNow}
use Rattle.clone_joined.specs.Runs.{stands, stop_by}
use Rattle.clone_joined.specs.Strangers.{acts_in, carries_out}
use Rattle.clone_joined.proofs.JoinedLemmas.{joined_acts, joined_strangers}
use Rattle.clone_joined.proofs.LendingLemmas.{act_lends, end_lends, end_stops, stop_by_act}
use Rattle.clone_joined.proofs.RunLemmas.{run_comes}
use Rattle.clone_joined.proofs.StrangerLemmas.{strangers_come}
use Rattle.clone_paired.specs.Strangers.{IsBetween, ServesOther}
use Rattle.clone_paired.proofs.StrangerLeaves.{stranger_leaves}
use Rattle.clone_talk.specs.Talking.{IsServer}
use Rattle.clone_events.specs.World.{Progress, IsHonest}
use Rattle.clone_events.specs.Events.{Change}
use Rattle.clone_core.specs.declared.world.Course.{Course}
use Rattle.clone_core.specs.declared.world.Course.TheVariants as course_as
use Rattle.clone_core.specs.declared.world.TheConstants.{SESSION}
use Rattle.clone_core.specs.System.{System, has_ended, tell}
use Rattle.clone_core.specs.Acting.{alone_after, crowding, disturbing, donor_changes, is_crowded, stop_changes, with_donor, with_stranger}
use Rattle.clone_core.specs.CloneEvents.{is_starved, Changes, EndsNone, ServesNoClone, ServesSome, StepsStranger}
use Rattle.clone_core.specs.Copied.{GoOnTalking, GoesOn, Holds, progress_by, progress_of, world_of}
use Rattle.clone_core.specs.Ending.{is_over}
use Rattle.clone_core.specs.Lines.{State}
use Rattle.clone_core.proofs.DonorLemmas as donors
use Rattle.clone_core.proofs.DonorLemmas.{alone_in, disturbed_by}
use Rattle.clone_core.proofs.TalkLemmas.{act_talks, donor_told, stranger_talks}

-- a world that is honest after such a call: nobody acted, or the clone had ended
pub undisturbed : (acts : Bool) (p : Progress) (disturbed : Bool) → is_over p ≡ false → disturbed_by acts p disturbed ≡ false → acts ≡ false
undisturbed false p disturbed going is = refl
undisturbed true p disturbed going is = absurd (true≢false (sym (ap (λ (b : Bool). if not b then true else disturbed) going) ∙ is))

pub was_honest : (acts : Bool) (p : Progress) (disturbed : Bool) → disturbed_by acts p disturbed ≡ false → disturbed ≡ false
was_honest acts p disturbed is = by (acts && not (is_over p)) is
  where
    by : (x : Bool) → (if x then true else disturbed) ≡ false → disturbed ≡ false
    by true is = absurd (true≢false is)
    by false is = is

pub not_over : (ended : Option tasks.CloneEnd) → is_none ended ≡ true → is_over (progress_by ended) ≡ false
not_over None is = refl
not_over (Some how) is = absurd (true≢false (sym is))

ended_over : (w : Course) → has_ended w ≡ is_over (progress_of w)
ended_over course_as.Absent = refl
ended_over course_as.Unbegun = refl
ended_over (course_as.Begun c) = by c.reception.table.ended
  where
    by : (e : Option tasks.CloneEnd) → is_some e ≡ is_over (progress_by e)
    by None = refl
    by (Some how) = refl

pub unended_over : (w : Course) → has_ended w ≡ false → is_over (progress_of w) ≡ false
unended_over w going = sym (ended_over w) ∙ going

-- A call of the clone on the donor that doesn't act in the session leaves donor and recipient
-- joined, and in talk; the laws are of the two that aren't begun, and of the two that are.
module _ (s : System) (begun : finite.FinMap nat_cmp ℕ) (disturbed doubted shown : Bool) (t : staged.Donor) (acts crowded alone : Bool) (alone_is : alone ≡ alone_in crowded (progress_of s.course) s.alone) (lends : Lends s.donor t) (now : StopsNow SESSION s.donor t)
    (holds : Holds (world_of s begun disturbed doubted shown)) (keeps : (w : Course) → s.course ≡ w → acts ≡ false → GoesOn s w → GoesOn (with_donor t s) w)
    (talk : (w : Course) → s.course ≡ w → acts ≡ false → tell s ≡ true → disturbed ≡ false → GoesOn s w → GoOnTalking s w → GoOnTalking (record (with_donor t s) { alone = alone }) w) where
  abbrev next : System
  next = record (with_donor t s) { alone = alone }

  abbrev new : State
  new = world_of next begun (disturbed_by acts (progress_of s.course) disturbed) doubted shown

  goes_in : (w : Course) → s.course ≡ w → disturbed_by acts (progress_of s.course) disturbed ≡ false → GoesOn s w → GoesOn next w
  goes_in course_as.Absent is honest on = keeps course_as.Absent is (undisturbed acts (progress_of s.course) disturbed (ap (λ (x : Course). is_over (progress_of x)) is) honest) on
  goes_in course_as.Unbegun is honest on = tt
  goes_in (course_as.Begun c) is honest on = λ runs. keeps (course_as.Begun c) is (undisturbed acts (progress_of s.course) disturbed (ap (λ (x : Course). is_over (progress_of x)) is ∙ not_over c.reception.table.ended runs) honest) on runs

  before : IsHonest new.clone → disturbed ≡ false
  before honest = was_honest acts (progress_of s.course) disturbed honest

  goes : IsHonest new.clone → GoesOn next s.course
  goes honest = goes_in s.course refl honest (holds.goes_on (before honest))

  talks_in : (w : Course) → s.course ≡ w → tell s ≡ true → IsHonest new.clone → GoesOn s w → GoOnTalking s w → GoOnTalking next w
  talks_in course_as.Absent is told honest on talks = talk course_as.Absent is (undisturbed acts (progress_of s.course) disturbed (ap (λ (x : Course). is_over (progress_of x)) is) honest) told (before honest) on talks
  talks_in course_as.Unbegun is told honest on talks = tt
  talks_in (course_as.Begun c) is told honest on talks = λ runs.
      talk (course_as.Begun c) is (undisturbed acts (progress_of s.course) disturbed (ap (λ (x : Course). is_over (progress_of x)) is ∙ not_over c.reception.table.ended runs) honest) told (before honest) on talks runs

  talks_next : new.tells ≡ true → IsHonest new.clone → GoOnTalking next s.course
  talks_next told honest =
      let was : tell s ≡ true = sym (ap (λ b. b && is_some s.recipient.told) lends.disk.tells) ∙ told in
      talks_in s.course refl was honest (holds.goes_on (before honest)) (holds.talks was (before honest))

  pub changed : Changes (disturbing acts ++ (crowding crowded ++ donor_changes s t)) (world_of s begun disturbed doubted shown) new
  changed = donors.changed s begun disturbed doubted shown t s.course acts crowded alone alone_is refl refl lends now holds goes

  pub holds_next : Holds new
  holds_next = donors.holds_next s begun disturbed doubted shown t s.course acts crowded alone alone_is refl refl lends now holds goes holds.parts holds.sizes holds.marked talks_next

-- ---- a stranger's step

module _ (s : System) (t : staged.Donor) (at after : Connection) (says : DonorStep) (steps : StepsEnd gives s.donor t at after says) where
  pub stranger_keeps : (w : Course) → s.course ≡ w → acts_in SESSION s.donor t at says ≡ false → GoesOn s w → GoesOn (with_donor t s) w
  stranger_keeps course_as.Absent is none on = strangers_come SESSION None s.stop s.donor t at after says on steps none
  stranger_keeps course_as.Unbegun is none on = tt
  stranger_keeps (course_as.Begun c) is none on = λ runs. joined_strangers SESSION c.reception s.recipient.told s.stop s.donor t c.network at after says (on runs) steps none

  -- whether the donor is alone with the clone then
  alone_so : alone_after t s ≡ alone_in (is_crowded t) (progress_of s.course) s.alone
  alone_so = λ i. if is_crowded t && not (ended_over s.course i) then false else s.alone

  module _ (begun : finite.FinMap nat_cmp ℕ) (disturbed doubted shown : Bool) (holds : Holds (world_of s begun disturbed doubted shown)) (serves : IsSome s.donor.engine.disk.told → IsServer s.donor) (opens : is_open at ≡ true) (between : IsBetween at.doing)
      (other : disturbed ≡ false → has_ended s.course ≡ false → ServesOther SESSION at.doing) where
    abbrev acts : Bool
    acts = acts_in SESSION s.donor t at says

    abbrev flag : Bool
    flag = disturbed_by acts (progress_of s.course) disturbed

    talk : (w : Course) → s.course ≡ w → acts ≡ false → tell s ≡ true → disturbed ≡ false → GoesOn s w → GoOnTalking s w → GoOnTalking (with_stranger t s) w
    talk w is none told honest on talks =
        stranger_talks s t at after says steps (serves (donor_told (is_some s.donor.engine.disk.told) (is_some s.recipient.told) told)) none opens between w is (λ going. other honest (ap has_ended is ∙ going)) on talks

    pub stranger_changed : StepsStranger (world_of s begun disturbed doubted shown) at (world_of (with_stranger t s) begun flag doubted shown) after says
    stranger_changed = record {
      donor = t;
      steps = steps;
      is = refl;
      changed = changed s begun disturbed doubted shown t acts (is_crowded t) (alone_after t s) alone_so (end_lends s.donor t at after says steps) (end_stops SESSION s.donor t at after says steps) holds stranger_keeps talk;
    }

    pub stranger_holds : Holds (world_of (with_stranger t s) begun flag doubted shown)
    stranger_holds = holds_next s begun disturbed doubted shown t acts (is_crowded t) (alone_after t s) alone_so (end_lends s.donor t at after says steps) (end_stops SESSION s.donor t at after says steps) holds stranger_keeps talk

    -- it serves no EXECUTE of the clone's session then
    pub stranger_other : flag ≡ false → has_ended s.course ≡ false → ServesOther SESSION after.doing
    stranger_other honest going =
        (stranger_leaves SESSION s.donor t at after says steps (undisturbed acts (progress_of s.course) disturbed (unended_over s.course going) honest) opens between (other (was_honest acts (progress_of s.course) disturbed honest) going)).1

    -- memory ran out in it: it may have acted
    never : (w : Course) → s.course ≡ w → true ≡ false → GoesOn s w → GoesOn (with_donor t s) w
    never w is wrong on = absurd (true≢false wrong)

    never_talks : (w : Course) → s.course ≡ w → true ≡ false → tell s ≡ true → disturbed ≡ false → GoesOn s w → GoOnTalking s w → GoOnTalking (with_stranger t s) w
    never_talks w is wrong told honest on talks = absurd (true≢false wrong)

    abbrev starved_changes : List Change
    starved_changes = disturbing true ++ (crowding (is_crowded t) ++ donor_changes s t)

    abbrev starved : State
    starved = world_of (with_stranger t s) begun (disturbed_by true (progress_of s.course) disturbed) doubted shown

    pub starved_changed : Changes starved_changes (world_of s begun disturbed doubted shown) starved
    starved_changed = changed s begun disturbed doubted shown t true (is_crowded t) (alone_after t s) alone_so (end_lends s.donor t at after says steps) (end_stops SESSION s.donor t at after says steps) holds never never_talks

    pub starved_holds : Holds starved
    starved_holds = holds_next s begun disturbed doubted shown t true (is_crowded t) (alone_after t s) alone_so (end_lends s.donor t at after says steps) (end_stops SESSION s.donor t at after says steps) holds never never_talks

-- ---- the session is given up

module _ (s : System) (t : staged.Donor) (number : ℕ) (acted : CloneActs (call.Abandon number) (given.Abandon (Ok tt)) s.donor t) (standing : stands SESSION s.donor ≡ (number == SESSION)) where
  abandon_keeps : (w : Course) → s.course ≡ w → (number == SESSION) ≡ false → GoesOn s w → GoesOn (with_donor t s) w
  abandon_keeps course_as.Absent is none on = run_comes SESSION None s.stop s.donor t _ on acted (standing ∙ none)
  abandon_keeps course_as.Unbegun is none on = tt
  abandon_keeps (course_as.Begun c) is none on = λ runs. joined_acts SESSION c.reception s.recipient.told s.stop s.donor t _ c.network (on runs) acted (standing ∙ none)

  abandon_talks : (disturbed : Bool) (w : Course) → s.course ≡ w → (number == SESSION) ≡ false → tell s ≡ true → disturbed ≡ false → GoesOn s w → GoOnTalking s w → GoOnTalking (with_donor t s) w
  abandon_talks disturbed w is none told honest on talks = noted_talks w (act_talks (Calls (call.Abandon number) (given.Abandon (Ok tt))) s t (eqb-false number SESSION none) tt acted told w on talks)
    where
      noted_talks : (v : Course) → GoOnTalking (record s { donor = t }) v → GoOnTalking (with_donor t s) v
      noted_talks course_as.Absent on = on
      noted_talks course_as.Unbegun on = tt
      noted_talks (course_as.Begun c) on = on

  module _ (begun : finite.FinMap nat_cmp ℕ) (disturbed doubted shown : Bool) (holds : Holds (world_of s begun disturbed doubted shown)) where
    pub abandoned_changed : Changes (disturbing (number == SESSION) ++ donor_changes s t) (world_of s begun disturbed doubted shown) (world_of (with_donor t s) begun (disturbed_by (number == SESSION) (progress_of s.course) disturbed) doubted shown)
    abandoned_changed = changed s begun disturbed doubted shown t (number == SESSION) false s.alone refl (act_lends s.donor t _ _ tt acted) (stop_by_act SESSION s.donor t _ acted) holds abandon_keeps (abandon_talks disturbed)

    pub abandoned_holds : Holds (world_of (with_donor t s) begun (disturbed_by (number == SESSION) (progress_of s.course) disturbed) doubted shown)
    abandoned_holds = holds_next s begun disturbed doubted shown t (number == SESSION) false s.alone refl (act_lends s.donor t _ _ tt acted) (stop_by_act SESSION s.donor t _ acted) holds abandon_keeps (abandon_talks disturbed)

-- ---- no end

stops_none : (stop own : Option session.Stop) → EndsNone (stop_changes stop own)
stops_none None None = tt
stops_none None (Some at) = tt
stops_none (Some at) own = tt

crowded_none : (crowded : Bool) (changes : List Change) → EndsNone changes → EndsNone (crowding crowded ++ changes)
crowded_none true changes none = none
crowded_none false changes none = none

-- ---- AS THE CODE HAS IT: the donor's last stop is looked up, and the flags are counted

module _ (s : System) (t : staged.Donor) (begun : finite.FinMap nat_cmp ℕ) (disturbed doubted shown : Bool) (latest stop : Option session.Stop) (flag acts : Bool) (latest_is : latest ≡ t.cloning.stop) (stop_is : stop ≡ option_or s.stop (own_stop SESSION latest))
    (flag_is : flag ≡ disturbed_by acts (progress_of s.course) disturbed) (alone due : Bool) (alone_is : alone ≡ due) where
  abbrev was : State
  was = world_of s begun disturbed doubted shown

  abbrev made : State
  made = world_of (record s { donor = t; stop = stop; alone = alone }) begun flag doubted shown

  stop_same : stop_by SESSION s.stop t ≡ stop
  stop_same = sym (stop_is ∙ ap (λ (o : Option session.Stop). option_or s.stop (own_stop SESSION o)) latest_is)

  pub as_made : (P : State → Type 0) (b : Bool) → acts ≡ b → P (world_of (record (with_donor t s) { alone = due }) begun (disturbed_by b (progress_of s.course) disturbed) doubted shown) → P made
  as_made P b is p =
      subst (λ (o : Option session.Stop). P (world_of (record s { donor = t; stop = o; alone = alone }) begun flag doubted shown)) stop_same
      (subst (λ (a : Bool). P (world_of (record (with_donor t s) { alone = a }) begun flag doubted shown)) (sym alone_is)
      (subst (λ (f : Bool). P (world_of (record (with_donor t s) { alone = due }) begun f doubted shown)) (sym (flag_is ∙ ap (λ (x : Bool). disturbed_by x (progress_of s.course) disturbed) is)) p))

starved_none : (s : System) (t : staged.Donor) → EndsNone (disturbing true ++ (crowding (is_crowded t) ++ donor_changes s t))
starved_none s t = crowded_none (is_crowded t) (stop_changes s.stop (own_stop SESSION t.cloning.stop)) (stops_none s.stop (own_stop SESSION t.cloning.stop))

-- a stranger's step
module _ (s : System) (t : staged.Donor) (begun : finite.FinMap nat_cmp ℕ) (disturbed doubted shown : Bool) (latest stop : Option session.Stop) (flag acts : Bool) (latest_is : latest ≡ t.cloning.stop) (stop_is : stop ≡ option_or s.stop (own_stop SESSION latest))
    (flag_is : flag ≡ disturbed_by acts (progress_of s.course) disturbed) (alone : Bool) (alone_is : alone ≡ alone_after t s) (at after : Connection) (says : DonorStep) (steps : StepsEnd gives s.donor t at after says) (holds : Holds (world_of s begun disturbed doubted shown))
    (serves : IsSome s.donor.engine.disk.told → IsServer s.donor) (opens : is_open at ≡ true) (between : IsBetween at.doing) where
  abbrev were : State
  were = world_of s begun disturbed doubted shown

  abbrev becomes : State
  becomes = world_of (record s { donor = t; stop = stop; alone = alone }) begun flag doubted shown

  as_made_here : (P : State → Type 0) (b : Bool) → acts ≡ b → P (world_of (with_stranger t s) begun (disturbed_by b (progress_of s.course) disturbed) doubted shown) → P becomes
  as_made_here = as_made s t begun disturbed doubted shown latest stop flag acts latest_is stop_is flag_is alone (alone_after t s) alone_is

  module _ (r : State) (is : were ≡ r) (serves_other : ServesNoClone r at) where
    other : disturbed ≡ false → has_ended s.course ≡ false → ServesOther SESSION at.doing
    other = subst (λ (w : State). ServesNoClone w at) (sym is) serves_other

    pub step_made : acts ≡ acts_in SESSION s.donor t at says → StepsStranger r at becomes after says
    step_made acted = subst (λ (w : State). StepsStranger w at becomes after says) is
        (as_made_here (λ w. StepsStranger were at w after says) (acts_in SESSION s.donor t at says) acted (stranger_changed s t at after says steps begun disturbed doubted shown holds serves opens between other))

    pub step_holds : acts ≡ acts_in SESSION s.donor t at says → Holds becomes
    step_holds acted = as_made_here Holds (acts_in SESSION s.donor t at says) acted (stranger_holds s t at after says steps begun disturbed doubted shown holds serves opens between other)

    pub step_other : acts ≡ acts_in SESSION s.donor t at says → ServesNoClone becomes after
    step_other acted honest going =
        stranger_other s t at after says steps begun disturbed doubted shown holds serves opens between other
        (sym (flag_is ∙ ap (λ (x : Bool). disturbed_by x (progress_of s.course) disturbed) acted) ∙ honest) going

    pub starved_made : acts ≡ true → ServesSome r becomes
    starved_made acted = subst (λ (w : State). ServesSome w becomes) is (
      starved_changes s t at after says steps begun disturbed doubted shown holds serves opens between other,
      starved_none s t,
      as_made_here (λ w. Changes (starved_changes s t at after says steps begun disturbed doubted shown holds serves opens between other) were w) true acted (starved_changed s t at after says steps begun disturbed doubted shown holds serves opens between other),
    )

    pub starved_kept : acts ≡ true → Holds becomes
    starved_kept acted = as_made_here Holds true acted (starved_holds s t at after says steps begun disturbed doubted shown holds serves opens between other)

    -- a clone that goes on is disturbed then
    pub starved_other : acts ≡ true → ServesNoClone becomes after
    starved_other acted honest going = absurd (true≢false (undisturbed true (progress_of s.course) disturbed (unended_over s.course going) (sym (flag_is ∙ ap (λ (x : Bool). disturbed_by x (progress_of s.course) disturbed) acted) ∙ honest)))

-- the session is given up
module _ (s : System) (t : staged.Donor) (begun : finite.FinMap nat_cmp ℕ) (disturbed doubted shown : Bool) (latest stop : Option session.Stop) (flag acts : Bool) (latest_is : latest ≡ t.cloning.stop) (stop_is : stop ≡ option_or s.stop (own_stop SESSION latest))
    (flag_is : flag ≡ disturbed_by acts (progress_of s.course) disturbed) (number : ℕ) (acted : CloneActs (call.Abandon number) (given.Abandon (Ok tt)) s.donor t) (standing : stands SESSION s.donor ≡ (number == SESSION)) (holds : Holds (world_of s begun disturbed doubted shown)) (same : acts ≡ (number == SESSION)) where
  abbrev found : State
  found = world_of s begun disturbed doubted shown

  abbrev left : State
  left = world_of (record s { donor = t; stop = stop }) begun flag doubted shown

  as_left : (P : State → Type 0) (b : Bool) → acts ≡ b → P (world_of (with_donor t s) begun (disturbed_by b (progress_of s.course) disturbed) doubted shown) → P left
  as_left = as_made s t begun disturbed doubted shown latest stop flag acts latest_is stop_is flag_is s.alone s.alone refl

  pub abandon_made : (r : State) → found ≡ r → Changes (disturbing (number == SESSION) ++ donor_changes r.donor t) r left
  abandon_made r is = subst (λ (w : State). Changes (disturbing (number == SESSION) ++ donor_changes w.donor t) w left) is
      (as_left (λ w. Changes (disturbing (number == SESSION) ++ donor_changes s t) found w) (number == SESSION) same (abandoned_changed s t number acted standing begun disturbed doubted shown holds))

  pub abandon_holds : Holds left
  abandon_holds = as_left Holds (number == SESSION) same (abandoned_holds s t number acted standing begun disturbed doubted shown holds)

  pub abandon_is : (r : State) → found ≡ r → left.donor ≡ with_donor t r.donor
  abandon_is r is = subst (λ (w : State). left.donor ≡ with_donor t w.donor) is
      (λ i. record s { donor = t; stop = (stop_is ∙ ap (λ (o : Option session.Stop). option_or s.stop (own_stop SESSION o)) latest_is) i })

-- acts in a session, by what was looked up before and after
pub acts_by : (d t : staged.Donor) (at : Connection) (says : DonorStep) (stood stays result : Bool) → stood ≡ stands SESSION d → stays ≡ stands SESSION t → result ≡ (carries_out at says && (stood || stays)) → result ≡ acts_in SESSION d t at says
acts_by d t at says stood stays result before after is = is ∙ (λ i. carries_out at says && (before i || after i))

-- ---- the session that stands

pub standing_of : (o : Option Session) (number : ℕ) → option_map (λ (s : Session). s.number) o ≡ Some number → (standing : Session) × (o ≡ Some standing) × (standing.number ≡ number)
standing_of None number is = absurd (let e : None ≡ Some number = is in cc)
standing_of (Some standing) number is = (standing, refl, same_Some standing.number number is)

pub none_standing : (o : Option Session) → option_map (λ (s : Session). s.number) o ≡ None → o ≡ None
none_standing None is = refl
none_standing (Some standing) is = absurd (let e : Some standing.number ≡ None = is in cc)

pub stands_so : (d : staged.Donor) (standing : Session) → d.cloning.session ≡ Some standing → stands SESSION d ≡ (standing.number == SESSION)
stands_so d standing is = ap (λ (o : Option Session). option_map_or (λ (x : Session). x.number == SESSION) o false) is

-- nothing is against giving it up
pub not_refused : (c : Cloning) (standing : Session) (why : CloneCause) → c.session ≡ Some standing → abandon_cause c standing.number ≡ Some why → ⊥
not_refused c standing why is cause =
    let e : None ≡ Some why = sym (ap (λ (o : Option Session). option_map_or (λ (x : Session). None) (option_and_then (λ (x : Session). if x.number == standing.number then Some x else None) o) (Some NoSuchSession)) is ∙ found (standing.number == standing.number) (eq-eqb standing.number standing.number refl)) ∙ cause in cc
  where
    found : (b : Bool) → b ≡ true → option_map_or (λ (x : Session). None) (if b then Some standing else None) (Some NoSuchSession) ≡ None
    found b holds_so = ap (λ (x : Bool). option_map_or (λ (y : Session). None) (if x then Some standing else None) (Some NoSuchSession)) holds_so

-- memory ran out
pub starved_is : (says : DonorStep) → is_starved says ≡ true → says ≡ step.Served served.NoMemory
starved_is (step.Served served.NoMemory) is = refl
starved_is says is = absurd (true≢false (sym is))

pub starved_not : (says : DonorStep) → is_starved says ≡ false → says ≡ step.Served served.NoMemory → ⊥
starved_not says is heard = true≢false (sym (ap is_starved heard) ∙ is)
