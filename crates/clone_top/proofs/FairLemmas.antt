-- A clone ends fairly, over honest connections to a donor whose disk tells what it holds.
use Rattle.std.proofs.Common.{◌≡◌, ℕ, List, [], ◌∷◌, refl, sym, ◌∙◌, subst, Bool, Some, true, false, flat_map}
use Rattle.std.proofs.lemmas.Bool.{true≢false}
use Rattle.clone_script.specs.declared.lines.Line.{Line}
use Rattle.clone_plain.specs.Donor.{Donor, no_donor}
use Rattle.clone_events.specs.Events.{Event, Shows, looked, started, unbegun, acts, showed, hidden, opened_follower, sent, taken, lost, set_to_lose, repeated, Change, stops, acknowledges, disturbs, crowds, ends, Clones, EndsFairly, Events, IsFairEnd, PlainEvent, changed_all, changed_by, changed_in, clone_after}
use Rattle.clone_events.specs.Runs.{Runs}
use Rattle.clone_events.specs.World.{World, End, Progress, absent, copying, over, complete, broken, spent, garbled, refused, Clone, IsHonest, no_clone, opened}
use Rattle.clone_events.proofs.RunLemmas.{Runs-Events}

abbrev pub IsFairBy : Progress → Clone → Type 0
IsFairBy (over how) clone = IsFairEnd clone how
IsFairBy other clone = Unit {0}

abbrev pub IsFair : Clone → Type 0
IsFair clone = IsFairBy clone.progress clone

-- a clone that is as honest and as much alone as another
record AsFair (base clone : Clone) : Type 0 where
  honest : IsHonest clone → IsHonest base
  alone : clone.alone ≡ true → base.alone ≡ true

fair_end : (base clone : Clone) (how : End) → AsFair base clone → IsFairEnd base how → IsFairEnd clone how
fair_end base clone (complete position) like is = tt
fair_end base clone broken like is = tt
fair_end base clone (spent losses) like is = tt
fair_end base clone (garbled bytes) like is = λ honest. is (like.honest honest)
fair_end base clone (refused words) like is = λ honest alone. is (like.honest honest) (like.alone alone)

fair_by : (p : Progress) (base clone : Clone) → AsFair base clone → IsFairBy p base → IsFairBy p clone
fair_by absent base clone like is = tt
fair_by copying base clone like is = tt
fair_by (over how) base clone like is = fair_end base clone how like is

-- of a clone that has ended nothing but the stop changes
over_step : (how : End) (change : Change) (clone : Clone) → clone.progress ≡ over how → IsFair clone → ((changed_in (over how) change clone).progress ≡ over how) × IsFair (changed_in (over how) change clone)
over_step how (stops at) clone is fair = (is, fair_by clone.progress clone (record clone { stop = Some at }) (record { honest = λ h. h; alone = λ a. a }) fair)
over_step how acknowledges clone is fair = (is, fair)
over_step how disturbs clone is fair = (is, fair)
over_step how crowds clone is fair = (is, fair)
over_step how (ends other) clone is fair = (is, fair)

over_fair : (how : End) (changes : List Change) (clone : Clone) → clone.progress ≡ over how → IsFair clone → IsFair (changed_all changes clone)
over_fair how [] clone is fair = fair
over_fair how (change ∷ changes) clone is fair =
    subst (λ (p : Progress). IsFair (changed_all changes (changed_in p change clone))) (sym is)
    (over_fair how changes (changed_in (over how) change clone) (over_step how change clone is fair).0 (over_step how change clone is fair).1)

-- a clone that hasn't ended
abbrev GoesOn : Progress → Type 0
GoesOn (over how) = ⊥
GoesOn other = Unit {0}

going_fair : (p : Progress) (clone : Clone) → GoesOn p → IsFairBy p clone
going_fair absent clone on = tt
going_fair copying clone on = tt
going_fair (over how) clone on = absurd on

change_going : (p : Progress) (change : Change) (clone : Clone) → GoesOn p → changed_in p change clone ≡ changed_by change clone
change_going absent change clone on = refl
change_going copying change clone on = refl
change_going (over how) change clone on = absurd on

going_by : (base clone : Clone) (change : Change) (changes : List Change) → GoesOn clone.progress → AsFair base clone → ((c : Clone) → GoesOn c.progress → AsFair base c → EndsFairly base changes → IsFair (changed_all changes c)) → EndsFairly base (change ∷ changes)
    → IsFair (changed_all changes (changed_by change clone))
going_by base clone (stops at) changes on like rest fair = rest (record clone { stop = Some at }) on (record { honest = like.honest; alone = like.alone }) fair
going_by base clone acknowledges changes on like rest fair = rest (record clone { floor = Some clone.looked }) on (record { honest = like.honest; alone = like.alone }) fair
going_by base clone disturbs changes on like rest fair = rest (record clone { disturbed = true }) on (record { honest = λ no. absurd (true≢false no); alone = like.alone }) fair
going_by base clone crowds changes on like rest fair = rest (record clone { alone = false }) on (record { honest = like.honest; alone = λ no. absurd (true≢false (sym no)) }) fair
going_by base clone (ends how) changes on like rest fair =
    over_fair how changes (record clone { progress = over how }) refl (fair_end base (record clone { progress = over how }) how (record { honest = like.honest; alone = like.alone }) fair)

going : (base clone : Clone) (changes : List Change) → GoesOn clone.progress → AsFair base clone → EndsFairly base changes → IsFair (changed_all changes clone)
going base clone [] on like is = going_fair clone.progress clone on
going base clone (change ∷ changes) on like is =
    subst (λ (c : Clone). IsFair (changed_all changes c)) (sym (change_going clone.progress change clone on)) (going_by base clone change changes on like (λ c. going base c changes) is)

changes_fair : (clone : Clone) (changes : List Change) → EndsFairly clone changes → IsFair clone → IsFair (changed_all changes clone)
changes_fair clone changes is fair = by clone.progress refl
  where
    by : (p : Progress) → clone.progress ≡ p → IsFair (changed_all changes clone)
    by absent so = going clone clone changes (subst GoesOn (sym so) tt) (record { honest = λ h. h; alone = λ a. a }) is
    by copying so = going clone clone changes (subst GoesOn (sym so) tt) (record { honest = λ h. h; alone = λ a. a }) is
    by (over how) so = over_fair how changes clone so fair

same_fair : (clone other : Clone) → other.progress ≡ clone.progress → AsFair clone other → IsFair clone → IsFair other
same_fair clone other is like fair = subst (λ (p : Progress). IsFairBy p other) (sym is) (fair_by clone.progress clone other like fair)

event_fair : (d : Donor) (old : Clone) (e : Event) (new : Clone) → Clones d true old e new → IsFair old → IsFair new
event_fair d old e new is fair = subst IsFair (sym is.is) (by e is.shows)
  where
    by : (x : Event) → Shows d true old x → IsFair (clone_after x old)
    by (looked position) shows = same_fair old (record old { looked = position }) refl (record { honest = λ h. h; alone = λ a. a }) fair
    by (started alone) shows = tt
    by unbegun shows = tt
    by (acts line changes answer) shows = changes_fair old changes (shows.2 refl) fair
    by (showed rows) shows = same_fair old (record old { shown = true }) refl (record { honest = λ h. h; alone = λ a. a }) fair
    by hidden shows = same_fair old (record old { doubted = true }) refl (record { honest = λ h. h; alone = λ a. a }) fair
    by (opened_follower rows position) shows = same_fair old (clone_after (opened_follower rows position) old) refl (record { honest = λ h. h; alone = λ a. a }) fair
    by (sent want frame) shows = same_fair old (clone_after (sent want frame) old) refl (record { honest = λ h. h; alone = λ a. a }) fair
    by (taken frame result) shows = same_fair old (clone_after (taken frame result) old) refl (record { honest = λ h. h; alone = λ a. a }) fair
    by (lost position) shows = same_fair old (clone_after (lost position) old) refl (record { honest = λ h. h; alone = λ a. a }) fair
    by set_to_lose shows = same_fair old (clone_after set_to_lose old) refl (record { honest = λ h. h; alone = λ a. a }) fair
    by (repeated number frame result) shows = same_fair old (clone_after (repeated number frame result) old) refl (record { honest = λ h. h; alone = λ a. a }) fair
    by other shows = fair

events_fair : (s : World Donor) (es : List Event) (t : World Donor) → s.tells ≡ true → Events (λ d. d) PlainEvent s es t → IsFair s.clone → IsFair t.clone
events_fair s [] t tells is fair = subst (λ (w : World Donor). IsFair w.clone) is fair
events_fair s (e ∷ es) t tells is fair =
    events_fair is.0 es t (is.1.tells ∙ tells) is.2 (event_fair s.donor s.clone e is.0.clone (subst (λ (b : Bool). Clones s.donor b s.clone e is.0.clone) tells is.1.clone) fair)

-- THE CLONE of a run from the beginning
pub run_fair : (tasks : ℕ) (tells : Bool) (lines : List Line) (events : List (List Event)) (t : World Donor) → tells ≡ true → Runs (λ d. d) PlainEvent (opened no_donor tasks tells) lines events t → IsFair t.clone
run_fair tasks tells lines events t is run =
    events_fair (opened no_donor tasks tells) (flat_map (λ es. es) events) t is (Runs-Events (λ d. d) PlainEvent (opened no_donor tasks tells) lines events t run) tt
