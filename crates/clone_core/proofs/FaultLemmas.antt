-- A fault of the recipient's disk by which a clone ended, or which came in the way of its rows, is in
-- the disk's count.
use Rattle.std.proofs.Common.{◌≡◌, ◌⊎◌, inl, inr, ◌≤◌, ◌++◌, ℕ, List, [], ◌∷◌, Bool, true, false, refl, sym, ap, subst, arith, Option, None, Some}
use Rattle.std.specs.List.{AllByRecursion}
use Rattle.clone_outside.specs.Causes.{Rose}
use Rattle.clone_plain.specs.Answers.{Text}
use Rattle.clone_script.specs.declared.lines.Line.{Line}
use Rattle.clone_script.specs.declared.lines.Line.TheVariants as lines
use Rattle.clone_session.specs.Cloning.{Session}
use Rattle.clone_session.specs.declared.info.Stop as session
use Rattle.clone_tasks.specs.declared.end.CloneEnd.TheVariants as ends_as
use Rattle.clone_fetch.specs.declared.answer.TaskAnswer.{TaskAnswer}
use Rattle.clone_fetch.specs.declared.answer.TaskAnswer.TheVariants as task
use Rattle.clone_network.specs.Connections.{Connection}
use Rattle.clone_network.specs.declared.donor_step.DonorStep.{DonorStep}
use Rattle.clone_sides.specs.Moment.{own_stop}
use Rattle.clone_joined.specs.Strangers.{acts_in}
use Rattle.clone_engine.specs.Donor as staged
use Rattle.clone_events.specs.World.{End, Progress, absent, copying, over, complete, broken, spent, garbled, refused, Clone, no_clone}
use Rattle.clone_events.specs.Events.{to_recipient, Event, Change, stops, acknowledges, disturbs, crowds, ends, acts, started, unbegun, hidden, changed_all, changed_in, Happens, Events}
use Rattle.clone_core.specs.declared.world.Copying.{Copying}
use Rattle.clone_core.specs.declared.world.Course.{Course}
use Rattle.clone_core.specs.declared.world.Course.TheVariants as course
use Rattle.clone_core.specs.declared.world.Ending.TheVariants.{RecipientFault}
use Rattle.clone_core.specs.declared.world.TheConstants.{SESSION}
use Rattle.clone_core.specs.Acting.{Abandons, ActsCut, ActsDonor, ActsFeed, ActsStep, ActsTask, OnCopying, ServesStranger, crowding, last, goes_on, disturbing, donor_changes, end_changes, floor_changes, is_crowded, stop_changes, stranger_changes, with_stranger}
use Rattle.clone_core.specs.Ending.{ending_by, ending_of}
use Rattle.clone_core.specs.Steps.{SystemStep}
use Rattle.clone_core.specs.System.{System, donor_of}
use Rattle.clone_core.specs.Lines.{State}
use Rattle.clone_core.proofs.OrderLemmas.{event_gets}

-- a clone that has come so far met such a fault
abbrev Met : Progress → (doubted : Bool) → Type 0
Met progress doubted = (progress ≡ over broken) ⊎ (doubted ≡ true)

abbrev pub MetFault : Clone → Type 0
MetFault clone = Met clone.progress clone.doubted

-- how it ended tells that
fault_met : (progress : Progress) (doubted : Bool) → ending_by progress doubted ≡ RecipientFault → Met progress doubted
fault_met progress true is = inr refl
fault_met absent false is = absurd (let e = is in cc)
fault_met copying false is = absurd (let e = is in cc)
fault_met (over (complete position)) false is = absurd (let e = is in cc)
fault_met (over broken) false is = inl refl
fault_met (over (spent losses)) false is = absurd (let e = is in cc)
fault_met (over (garbled bytes)) false is = absurd (let e = is in cc)
fault_met (over (refused words)) false is = absurd (let e = is in cc)

pub recipient_met : (clone : Clone) → ending_of clone ≡ RecipientFault → MetFault clone
recipient_met clone is = fault_met clone.progress clone.doubted is

abbrev faults : State → ℕ
faults s = s.donor.recipient.failures

-- the clone met one before, or the count rose
abbrev HasMet : State → State → Type 0
HasMet s t = MetFault s.clone ⊎ Rose (faults s) (faults t)

met_before : (s t : State) (clone : Clone) → t.clone ≡ clone → (MetFault clone → MetFault s.clone) → MetFault t.clone → HasMet s t
met_before s t clone is before met = inl (before (subst MetFault is met))

copying_met : (old : Progress) (doubted : Bool) → Met copying doubted → Met old doubted
copying_met old doubted (inl is) = absurd (let e : copying ≡ over broken = is in cc)
copying_met old doubted (inr is) = inr is

-- ---- changes by which no such fault ends a clone

abbrev IsHarmless : Change → Type 0
IsHarmless (ends broken) = ⊥
IsHarmless other = Unit {0}

abbrev AreHarmless : List Change → Type 0
AreHarmless changes = AllByRecursion IsHarmless changes

ended_met : (how : End) (old : Progress) (doubted : Bool) → IsHarmless (ends how) → Met (over how) doubted → Met old doubted
ended_met how old doubted harmless (inr is) = inr is
ended_met (complete position) old doubted harmless (inl is) = absurd (let e : over (complete position) ≡ over broken = is in cc)
ended_met broken old doubted harmless (inl is) = absurd harmless
ended_met (spent losses) old doubted harmless (inl is) = absurd (let e : over (spent losses) ≡ over broken = is in cc)
ended_met (garbled bytes) old doubted harmless (inl is) = absurd (let e : over (garbled bytes) ≡ over broken = is in cc)
ended_met (refused words) old doubted harmless (inl is) = absurd (let e : over (refused words) ≡ over broken = is in cc)

change_met : (progress : Progress) (change : Change) (clone : Clone) → IsHarmless change → MetFault (changed_in progress change clone) → MetFault clone
change_met absent (ends how) clone harmless met = ended_met how clone.progress clone.doubted harmless met
change_met copying (ends how) clone harmless met = ended_met how clone.progress clone.doubted harmless met
change_met absent (stops at) clone harmless met = met
change_met absent acknowledges clone harmless met = met
change_met absent disturbs clone harmless met = met
change_met absent crowds clone harmless met = met
change_met copying (stops at) clone harmless met = met
change_met copying acknowledges clone harmless met = met
change_met copying disturbs clone harmless met = met
change_met copying crowds clone harmless met = met
change_met (over end) (stops at) clone harmless met = met
change_met (over end) acknowledges clone harmless met = met
change_met (over end) disturbs clone harmless met = met
change_met (over end) crowds clone harmless met = met
change_met (over end) (ends how) clone harmless met = met

changes_met : (changes : List Change) (clone : Clone) → AreHarmless changes → MetFault (changed_all changes clone) → MetFault clone
changes_met [] clone harmless met = met
changes_met (change ∷ changes) clone harmless met =
    change_met clone.progress change clone harmless.0 (changes_met changes (changed_in clone.progress change clone) harmless.1 met)

harmless_append : (xs ys : List Change) → AreHarmless xs → AreHarmless ys → AreHarmless (xs ++ ys)
harmless_append [] ys first second = second
harmless_append (x ∷ xs) ys first second = (first.0, harmless_append xs ys first.1 second)

stop_harmless : (before now : Option session.Stop) → AreHarmless (stop_changes before now)
stop_harmless None None = tt
stop_harmless None (Some at) = (tt, tt)
stop_harmless (Some was) now = tt

floor_harmless : (before after : Option ℕ) → AreHarmless (floor_changes before after)
floor_harmless None None = tt
floor_harmless None (Some floor) = (tt, tt)
floor_harmless (Some was) after = tt

disturbing_harmless : (b : Bool) → AreHarmless (disturbing b)
disturbing_harmless true = (tt, tt)
disturbing_harmless false = tt

none_harmless : (changes : List Change) → changes ≡ [] → AreHarmless changes
none_harmless changes none = subst AreHarmless (sym none) tt

-- a step of a task ends the clone by a fault, or its changes are harmless
end_harmless : (says : TaskAnswer) → (says ≡ task.Ended ends_as.DiskFault) ⊎ AreHarmless (end_changes says)
end_harmless (task.Ended (ends_as.Complete lsn position)) = inr (tt, tt)
end_harmless (task.Ended (ends_as.Spent losses)) = inr (tt, tt)
end_harmless (task.Ended (ends_as.Garbled kept)) = inr (tt, tt)
end_harmless (task.Ended (ends_as.Refused cause)) = inr (tt, tt)
end_harmless (task.Ended ends_as.DiskFault) = inl refl
end_harmless task.Idle = inr tt
end_harmless task.Stale = inr tt
end_harmless (task.Sent code) = inr tt
end_harmless (task.Took took) = inr tt
end_harmless (task.Lost losses) = inr tt
end_harmless task.NoMemory = inr tt

-- ---- what lines change that ask something of a connection or of the session

-- the count rose, or the changes are harmless
abbrev Rises : System → System → List Change → Type 0
Rises s t changes = Rose s.recipient.failures t.recipient.failures ⊎ AreHarmless changes

task_rises : (number : ℕ) (s t : System) (changes : List Change) (answer : Text) (c : Copying) → ActsTask number c s t changes answer → Rises s t changes
task_rises number s t changes answer c is = elim (end_harmless is.says) [
  | inl fault ↦ inl (subst (λ (w : System). Rose s.recipient.failures w.recipient.failures) (sym is.is) (is.works.fault fault))
  | inr harmless ↦ inr (subst AreHarmless (sym is.changed) (harmless_append (floor_changes c.reception.table.floor is.reception.table.floor) (end_changes is.says) (floor_harmless _ _) harmless))
]

on_rises : (Does : Copying → System → System → List Change → Text → Type 0) (way : Course) (s t : System) (changes : List Change) (answer : Text) → ((c : Copying) → Does c s t changes answer → Rises s t changes) → OnCopying Does way s t changes answer → Rises s t changes
on_rises Does (course.Begun c) s t changes answer rises is = rises c is
on_rises Does course.Absent s t changes answer rises is = inr (none_harmless changes is.none)
on_rises Does course.Unbegun s t changes answer rises is = inr (none_harmless changes is.none)

crowding_harmless : (crowded : Bool) → AreHarmless (crowding crowded)
crowding_harmless true = (tt, tt)
crowding_harmless false = tt

step_harmless : (at : Connection) (says : DonorStep) (s : System) (d : staged.Donor) → AreHarmless (stranger_changes at says s d)
step_harmless at says s d =
    harmless_append (disturbing (acts_in SESSION s.donor d at says)) (crowding (is_crowded d) ++ donor_changes s d) (disturbing_harmless (acts_in SESSION s.donor d at says))
    (harmless_append (crowding (is_crowded d)) (donor_changes s d) (crowding_harmless (is_crowded d)) (stop_harmless s.stop (own_stop SESSION d.cloning.stop)))

stranger_harmless : (at : Connection) (s t : System) (changes : List Change) (how : DonorStep) → ServesStranger at s t changes how → AreHarmless changes
stranger_harmless at s t changes how (last _ after _ _ donor says steps shut is) = step_harmless at says s donor
stranger_harmless at s t changes how (goes_on _ after _ _ donor says later rest steps loops more) =
    harmless_append _ rest (step_harmless at says s donor)
    (stranger_harmless after (with_stranger donor s) t rest later more)

abandon_harmless : (o : Option Session) (s t : System) (changes : List Change) (answer : Text) → Abandons o s t changes answer → AreHarmless changes
abandon_harmless None s t changes answer is = none_harmless changes is.1
abandon_harmless (Some standing) s t changes answer (donor, does, is, changed, says) =
    subst AreHarmless (sym changed) (harmless_append (disturbing _) (donor_changes s donor) (disturbing_harmless _) (stop_harmless s.stop (own_stop SESSION donor.cloning.stop)))

acts_rise : (by : Line) (s t : System) (changes : List Change) (answer : Text) → ActsStep by s t changes answer → Rises s t changes
acts_rise (lines.Task number) s t changes answer is = on_rises (ActsTask number) s.course s t changes answer (task_rises number s t changes answer) is
acts_rise (lines.Serve connection) s t changes answer is =
    on_rises (ActsDonor connection) s.course s t changes answer (λ c does. inr (subst AreHarmless (sym does.changed) (stop_harmless s.stop (own_stop SESSION does.donor.cloning.stop)))) is
acts_rise (lines.Cut connection to_donor to_task) s t changes answer is = on_rises (ActsCut connection to_donor to_task) s.course s t changes answer (λ c does. inr (none_harmless changes does.none)) is
acts_rise (lines.Feed connection bytes) s t changes answer is = on_rises (ActsFeed connection bytes) s.course s t changes answer (λ c does. inr (subst AreHarmless (sym does.changed) (disturbing_harmless _))) is
acts_rise (lines.Raw bytes) s t changes answer is = inr (stranger_harmless _ s t changes is.how is.serves)
acts_rise lines.Abandon s t changes answer is = inr (abandon_harmless s.donor.cloning.session s t changes answer is)
acts_rise lines.Status s t changes answer is = inr (none_harmless changes is.none)
acts_rise line s t changes answer is = absurd is

-- ---- events

acts_met : (s : State) (by : Line) (changes : List Change) (answer : Text) (t : State) → Happens donor_of SystemStep s (acts by changes answer) t → MetFault t.clone → HasMet s t
acts_met s by changes answer t is met = elim (acts_rise by s.donor t.donor changes answer is.step) [
  | inl rose ↦ inr rose
  | inr harmless ↦ met_before s t _ is.clone.is (changes_met changes s.clone harmless) met
]

event_met : (s : State) (e : Event) (t : State) → Happens donor_of SystemStep s e t → MetFault t.clone → HasMet s t
event_met s (started alone) t is met = met_before s t _ is.clone.is (copying_met s.clone.progress s.clone.doubted) met
event_met s unbegun t is met = inr is.step.rose
event_met s hidden t is met = inr is.step.rose
event_met s (acts by changes answer) t is met = acts_met s by changes answer t is met
event_met s e t is met = met_before s t _ is.clone.is (λ m. m) met

events_later : (s : State) (es : List Event) (t : State) → Events donor_of SystemStep s es t → faults s ≤ faults t
events_later s [] t is = omega (arith, ap faults is)
events_later s (e ∷ es) t is = omega (arith, (event_gets to_recipient s.donor e is.0.donor is.1.step).later, events_later is.0 es t is.2)

rose_behind : (a b c : ℕ) → a ≤ b → Rose b c → Rose a c
rose_behind a b c low rose = omega arith

rose_before : (a b c : ℕ) → Rose a b → b ≤ c → Rose a c
rose_before a b c rose low = omega arith

pub events_met : (s : State) (es : List Event) (t : State) → Events donor_of SystemStep s es t → MetFault t.clone → HasMet s t
events_met s [] t is met = let P : State → Type 0 = λ w. MetFault w.clone in inl (subst P (sym is) met)
events_met s (e ∷ es) t is met = behind (events_met is.0 es t is.2 met)
  where
    first : HasMet s is.0 → HasMet s t
    first (inl before) = inl before
    first (inr rose) = inr (rose_before (faults s) (faults is.0) (faults t) rose (events_later is.0 es t is.2))

    behind : HasMet is.0 t → HasMet s t
    behind (inl before) = first (event_met s e is.0 is.1 before)
    behind (inr rose) = inr (rose_behind (faults s) (faults is.0) (faults t) (event_gets to_recipient s.donor e is.0.donor is.1.step).later rose)

none_met : MetFault no_clone → ⊥
none_met (inl is) = let e : absent ≡ over broken = is in cc
none_met (inr is) = let e : false ≡ true = is in cc

pub met_since : (s t : State) → s.clone ≡ no_clone → HasMet s t → Rose (faults s) (faults t)
met_since s t none (inl before) = absurd (none_met (subst MetFault none before))
met_since s t none (inr rose) = rose
