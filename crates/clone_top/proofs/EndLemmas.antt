-- A clone that is complete, in which nobody but its tasks had a hand, is complete at its stop, also as a
-- run leaves it.
use Rattle.std.proofs.Common.{◌≡◌, ℕ, List, [], ◌∷◌, sym, subst, Bool, inl, inr, flat_map}
use Rattle.clone_script.specs.declared.lines.Line.{Line}
use Rattle.clone_plain.specs.Donor.{Donor, no_donor}
use Rattle.clone_events.specs.BreaksOff.{Becomes, BecomesUntold}
use Rattle.clone_events.specs.Events.{Event, PlainEvent, clone_after}
use Rattle.clone_events.specs.Runs.{Runs}
use Rattle.clone_events.specs.World.{World, absent, complete, over, Clone, no_clone, opened}
use Rattle.clone_events.proofs.CompleteLemmas.{IsAtStop, clones_keep, events_keep}
use Rattle.clone_events.proofs.RunLemmas.{Runs-Events}
use Rattle.clone_top.specs.Headline.{LeavesPlain, Run, behind, within}

becomes_keeps : (d : Donor) (tells : Bool) (old : Clone) (es : List Event) (new : Clone) → Becomes d tells old es new → IsAtStop old → IsAtStop new
becomes_keeps d tells old [] new is kept = subst IsAtStop (sym is) kept
becomes_keeps d tells old (e ∷ es) new is kept = becomes_keeps d tells (clone_after e old) es new is.1 (clones_keep d tells old e (clone_after e old) is.0 kept)

untold_keeps : (tasks : ℕ) (next : ℕ → ℕ) (line : Line) (d : Donor) (tells : Bool) (old new : Clone) → BecomesUntold tasks next line d tells old new → IsAtStop old → IsAtStop new
untold_keeps tasks next line d tells old new is kept = elim is [
  | inl same ↦ subst IsAtStop (sym same) kept
  | inr other ↦ becomes_keeps d tells old other.0 new other.3 kept
]

-- the clone of a run from the beginning
pub ends_at_stop : (tasks : ℕ) (tells : Bool) (lines : List Line) (events : List (List Event)) (t : World Donor) → Runs (λ d. d) PlainEvent (opened no_donor tasks tells) lines events t → IsAtStop t.clone
ends_at_stop tasks tells lines events t run =
    let begins : IsAtStop no_clone = λ position other honest. let no : absent ≡ over (complete position) = other in cc in
    events_keep (opened no_donor tasks tells) (flat_map (λ es. es) events) t (Runs-Events (λ d. d) PlainEvent (opened no_donor tasks tells) lines events t run) begins

-- and as a run leaves it
pub left_at_stop : (run : Run) → LeavesPlain run → IsAtStop run.final.clone → IsAtStop run.left.clone
left_at_stop run (behind is) kept = subst (λ (w : World Donor). IsAtStop w.clone) (sym is) kept
left_at_stop run (within line at off) kept =
    let told = events_keep run.final off.front off.then off.happened kept in
    untold_keeps _ _ line off.then.donor off.then.tells off.then.clone run.left.clone off.clone told
