-- A clone that is complete, in which nobody but its tasks had a hand, is complete at its stop.
use Rattle.std.proofs.Common.{◌≡◌, ℕ, List, [], ◌∷◌, refl, sym, subst, Bool, Option, MatchOption}
use Rattle.clone_plain.specs.Donor.{Donor}
use Rattle.clone_events.specs.Events.{Event, looked, started, unbegun, acts, showed, hidden, Change, stops, acknowledges, disturbs, crowds, ends, Clones, Events, PlainEvent, Shows, ShowsChange, ShowsChanges, ShowsIn, changed_all, changed_by, changed_in, clone_after}
use Rattle.clone_events.specs.World.{World, Stop, Progress, absent, copying, over, complete, broken, spent, garbled, refused, Clone, HasEnded, IsHonest}

abbrev pub IsAtStop : Clone → Type 0
IsAtStop clone = (position : ℕ) → clone.progress ≡ over (complete position) → IsHonest clone → MatchOption clone.stop ⊥ (λ (at : Stop). position ≡ at.position)

same_position : (n position : ℕ) → over (complete n) ≡ over (complete position) → n ≡ position
same_position n position same = cc

-- a change of a clone that hasn't ended
change_before : (d : Donor) (clone : Clone) (change : Change) → (HasEnded clone.progress → ⊥) → ShowsChange d clone change → IsAtStop (changed_by change clone)
change_before d clone (stops at) goes_on shows = λ position ended honest. absurd (goes_on (subst HasEnded (sym ended) tt))
change_before d clone acknowledges goes_on shows = λ position ended honest. absurd (goes_on (subst HasEnded (sym ended) tt))
change_before d clone disturbs goes_on shows = λ position ended honest. absurd (goes_on (subst HasEnded (sym ended) tt))
change_before d clone crowds goes_on shows = λ position ended honest. absurd (goes_on (subst HasEnded (sym ended) tt))
change_before d clone (ends (complete n)) goes_on shows = λ position ended honest.
    let P : ℕ → Type 0 = λ q. MatchOption clone.stop ⊥ (λ (at : Stop). q ≡ at.position) in
    subst P (same_position n position ended) (shows.1 honest).stop
change_before d clone (ends broken) goes_on shows = λ position other honest. let no : over broken ≡ over (complete position) = other in cc
change_before d clone (ends (spent losses)) goes_on shows = λ position other honest. let no : over (spent losses) ≡ over (complete position) = other in cc
change_before d clone (ends (garbled bytes)) goes_on shows = λ position other honest. let no : over (garbled bytes) ≡ over (complete position) = other in cc
change_before d clone (ends (refused words)) goes_on shows = λ position other honest. let no : over (refused words) ≡ over (complete position) = other in cc

change_keeps : (p : Progress) (d : Donor) (clone : Clone) (change : Change) → clone.progress ≡ p → ShowsIn p d clone change → IsAtStop clone → IsAtStop (changed_in p change clone)
change_keeps absent d clone change is shows kept = change_before d clone change (λ ended. subst HasEnded is ended) shows
change_keeps copying d clone change is shows kept = change_before d clone change (λ ended. subst HasEnded is ended) shows
change_keeps (over how) d clone (stops at) is shows kept = λ position ended honest.
    let P : Option Stop → Type 0 = λ o. MatchOption o ⊥ (λ (s : Stop). position ≡ s.position) in
    absurd (subst P shows.first (kept position ended honest))
change_keeps (over how) d clone acknowledges is shows kept = kept
change_keeps (over how) d clone disturbs is shows kept = kept
change_keeps (over how) d clone crowds is shows kept = kept
change_keeps (over how) d clone (ends other) is shows kept = absurd shows

changes_keep : (d : Donor) (clone : Clone) (changes : List Change) → ShowsChanges d clone changes → IsAtStop clone → IsAtStop (changed_all changes clone)
changes_keep d clone [] shows kept = kept
changes_keep d clone (change ∷ changes) shows kept = changes_keep d (changed_in clone.progress change clone) changes shows.1 (change_keeps clone.progress d clone change refl shows.0 kept)

pub event_keeps : (d : Donor) (tells : Bool) (old : Clone) (e : Event) → Shows d tells old e → IsAtStop old → IsAtStop (clone_after e old)
event_keeps d tells old (looked position) shows kept = kept
event_keeps d tells old (started alone) shows kept = λ position other honest. let no : copying ≡ over (complete position) = other in cc
event_keeps d tells old unbegun shows kept = λ position other honest. let no : over broken ≡ over (complete position) = other in cc
event_keeps d tells old (acts by changes answer) shows kept = changes_keep d old changes shows.0 kept
event_keeps d tells old (showed rows) shows kept = kept
event_keeps d tells old hidden shows kept = kept
event_keeps d tells old e shows kept = kept

pub clones_keep : (d : Donor) (tells : Bool) (old : Clone) (e : Event) (new : Clone) → Clones d tells old e new → IsAtStop old → IsAtStop new
clones_keep d tells old e new is kept = subst IsAtStop (sym is.is) (event_keeps d tells old e is.shows kept)

pub events_keep : (s : World Donor) (es : List Event) (t : World Donor) → Events (λ d. d) PlainEvent s es t → IsAtStop s.clone → IsAtStop t.clone
events_keep s [] t is kept = subst (λ (w : World Donor). IsAtStop w.clone) is kept
events_keep s (e ∷ es) t is kept = events_keep is.0 es t is.2 (clones_keep s.donor s.tells s.clone e is.0.clone is.1.clone kept)
