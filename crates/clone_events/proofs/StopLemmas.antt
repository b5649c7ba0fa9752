-- What events show of a clone is what the history before its stop leaves, however long the history
-- becomes.
use Rattle.std.proofs.Common.{◌≡◌, ℕ, ◌≤◌, List, [], ◌∷◌, length, take, Bool, sym, ap, ◌∙◌, subst, arith, length-append, Option, Some, None, MatchOption}
use Rattle.clone_events.proofs.Common.{take-append-le, Rows, Drops, fold, history_of, Commit, Donor, World, Stop, Clone, before_stop, Event, Change, Progress, absent, copying, over, acts, stops, ends, looked, showed, opened_follower, Shows, ShowsChange, ShowsChanges, ShowsIn, changed_by, changed_in, changed_all, clone_after, ComesToStop, PlainEvent, Happens, Events, ShowsStop}
use Rattle.clone_events.proofs.BinlogLemmas.{Adds, event_adds, events_add}

-- a stop lies within what there is
abbrev pub IsStop : Option Stop → Donor → Type 0
IsStop None d = Unit {0}
IsStop (Some at) d = (at.position ≤ length d.binlog) × (at.drops ≤ length d.drops)

pub stop_stays : (o : Option Stop) (d e : Donor) (answered : List ℕ) → Adds d e answered → IsStop o d → IsStop o e
stop_stays None d e answered added is = tt
stop_stays (Some at) d e answered added is = (omega (arith, is.0, ap length added.binlog, length-append d.binlog added.more), omega (arith, is.1, ap length added.drops, length-append d.drops added.gone))

-- the history before a stop doesn't change any more
pub before_stop-longer : (at : Stop) (d e : Donor) (answered : List ℕ) → IsStop (Some at) d → Adds d e answered → before_stop at d ≡ before_stop at e
before_stop-longer at d e answered is added =
    ap (λ (b : List Commit). history_of b (take at.drops d.drops)) (sym (take-append-le at.position d.binlog added.more is.0) ∙ ap (take at.position) (sym added.binlog))
    ∙ ap (λ (drops : Drops). history_of (take at.position e.binlog) drops) (sym (take-append-le at.drops d.drops added.gone is.1) ∙ ap (take at.drops) (sym added.drops))

shown : (o : Option Stop) (d e : Donor) (answered : List ℕ) (rows : Rows) → IsStop o d → Adds d e answered → MatchOption o ⊥ (λ (at : Stop). rows ≡ fold (before_stop at d)) → MatchOption o ⊥ (λ (at : Stop). rows ≡ fold (before_stop at e))
shown None d e answered rows is added shows = shows
shown (Some at) d e answered rows is added shows = shows ∙ ap fold (before_stop-longer at d e answered is added)

stop_longer : (d e : Donor) (answered : List ℕ) (clone : Clone) (at : Stop) → Adds d e answered → ComesToStop d clone at → ComesToStop e clone at
stop_longer d e answered clone at added is =
    let still = stop_stays (Some at) d e answered added (is.commits, is.drops) in
    record { first = is.first; commits = still.0; drops = still.1 }

-- what a change shows by a history it shows by each longer one, and the stop stays within
change_longer : (d e : Donor) (answered : List ℕ) (clone : Clone) (change : Change) → Adds d e answered → ShowsChange d clone change → ShowsChange e clone change
change_longer d e answered clone (stops at) added is =
    (stop_longer d e answered clone at added is.0, is.1)
change_longer d e answered clone change added is = is

in_longer : (p : Progress) (d e : Donor) (answered : List ℕ) (clone : Clone) (change : Change) → Adds d e answered → ShowsIn p d clone change → ShowsIn p e clone change
in_longer absent d e answered clone change added is = change_longer d e answered clone change added is
in_longer copying d e answered clone change added is = change_longer d e answered clone change added is
in_longer (over how) d e answered clone (ends other) added is = is
in_longer (over how) d e answered clone (stops at) added is = stop_longer d e answered clone at added is
in_longer (over how) d e answered clone change added is = is

stop_by : (d : Donor) (clone : Clone) (change : Change) → ShowsChange d clone change → IsStop clone.stop d → IsStop (changed_by change clone).stop d
stop_by d clone (stops at) is within = (is.0.commits, is.0.drops)
stop_by d clone change is within = within

stop_in : (p : Progress) (d : Donor) (clone : Clone) (change : Change) → ShowsIn p d clone change → IsStop clone.stop d → IsStop (changed_in p change clone).stop d
stop_in absent d clone change is within = stop_by d clone change is within
stop_in copying d clone change is within = stop_by d clone change is within
stop_in (over how) d clone (stops at) is within = (is.commits, is.drops)
stop_in (over how) d clone change is within = within

changes_longer : (d e : Donor) (answered : List ℕ) (clone : Clone) (changes : List Change) → Adds d e answered → IsStop clone.stop d → ShowsChanges d clone changes → ShowsChanges e clone changes
changes_longer d e answered clone [] added within is = tt
changes_longer d e answered clone (change ∷ changes) added within is = (
  in_longer clone.progress d e answered clone change added is.0,
  changes_longer d e answered (changed_in clone.progress change clone) changes added (stop_in clone.progress d clone change is.0 within) is.1,
)

stop_all : (d : Donor) (clone : Clone) (changes : List Change) → ShowsChanges d clone changes → IsStop clone.stop d → IsStop (changed_all changes clone).stop d
stop_all d clone [] is within = within
stop_all d clone (change ∷ changes) is within = stop_all d (changed_in clone.progress change clone) changes is.1 (stop_in clone.progress d clone change is.0 within)

-- what an event shows by a history it shows by each longer one
shows_longer : (d e : Donor) (answered : List ℕ) (tells : Bool) (clone : Clone) (event : Event) → Adds d e answered → IsStop clone.stop d → Shows d tells clone event → Shows e tells clone event
shows_longer d e answered tells clone (looked n) added within is = omega (arith, is, ap length added.binlog, length-append d.binlog added.more)
shows_longer d e answered tells clone (acts by changes answer) added within is = (changes_longer d e answered clone changes added within is.0, is.1, is.2)
shows_longer d e answered tells clone (showed rows) added within is = record { ended = is.ended; are = λ sure. shown clone.stop d e answered rows within added (is.are sure) }
shows_longer d e answered tells clone (opened_follower rows position) added within is = record {
  first = is.first;
  whole = is.whole;
  rows_are = record { ended = is.rows_are.ended; are = λ sure. shown clone.stop d e answered rows within added (is.rows_are.are sure) };
}
shows_longer d e answered tells clone event added within is = is

-- the stop of the clone lies within what there is, behind an event too
pub stop_after : (d : Donor) (tells : Bool) (clone : Clone) (event : Event) → Shows d tells clone event → IsStop clone.stop d → IsStop (clone_after event clone).stop d
stop_after d tells clone (acts by changes answer) is within = stop_all d clone changes is.0 within
stop_after d tells clone event is within = within

module _ {D : Type 0} (plain : D → Donor) (Step : D → Event → D → Type 0) (refines : (d e : D) (event : Event) → Step d event e → PlainEvent (plain d) event (plain e)) where
  pub shows_stop : (s : World D) (es : List Event) (t : World D) → IsStop s.clone.stop (plain s.donor) → Events plain Step s es t → ShowsStop (plain t.donor) s.tells s.clone es
  shows_stop s [] t within is = tt
  shows_stop s (e ∷ es) t within is =
      let happens : Happens plain Step s e is.0 = is.1 in
      let all = events_add plain Step refines s (e ∷ es) t is in
      let here = shows_longer (plain s.donor) (plain t.donor) _ s.tells s.clone e all within happens.clone.shows in
      let at : IsStop (clone_after e s.clone).stop (plain is.0.donor) = stop_stays (clone_after e s.clone).stop (plain s.donor) (plain is.0.donor) _ (event_adds plain Step refines s e is.0 happens) (stop_after (plain s.donor) s.tells s.clone e happens.clone.shows within) in
      let P : Clone → Type 0 = λ c. IsStop c.stop (plain is.0.donor) in
      let rest = shows_stop is.0 es t (subst P (sym happens.clone.is) at) is.2 in
      let Q : Bool → Type 0 = λ b. ShowsStop (plain t.donor) b is.0.clone es in
      let R : Clone → Type 0 = λ c. ShowsStop (plain t.donor) s.tells c es in
      (here, subst R happens.clone.is (subst Q happens.tells rest))
