-- How often a session was opened in a run.
use Rattle.std.specs.Prelude.{◌≢◌, Bool, List, [], ◌∷◌, if◌then◌else◌}

-- it wasn't opened yet, it is open, it is gone, or it was opened again
pub data Phase : Type 0 where
  Unopened : Phase
  Open : Phase
  Gone : Phase
  Again : Phase

module _ {E : Type 0} where
  abbrev pub phase_with : (opens leaves : E → Bool) → Phase → E → Phase
  phase_with opens leaves Unopened e = if opens e then Open else Unopened
  phase_with opens leaves Open e = if leaves e then Gone else Open
  phase_with opens leaves Gone e = if opens e then Again else Gone
  phase_with opens leaves Again e = Again

  abbrev pub phase_after : (opens leaves : E → Bool) → Phase → List E → Phase
  phase_after opens leaves phase [] = phase
  phase_after opens leaves phase (e ∷ es) =
      phase_after opens leaves (phase_with opens leaves phase e) es

  -- THE SESSION WAS OPENED ONCE. That it begins again while it is open is no second opening.
  abbrev pub IsOpenedOnce : (opens leaves : E → Bool) → List E → Type 0
  IsOpenedOnce opens leaves run = phase_after opens leaves Unopened run ≢ Again
