-- A machine that puts nothing out that opens once something left, over a whole run.
use Rattle.std.proofs.Common.{◌≡◌, Bool, true, false, List, [], ◌∷◌, ◌++◌, refl, flat_map}
use Rattle.clone_turn.specs.declared.view.Entry.{Entry}
use Rattle.clone_turn.specs.Runs.{IsLegalRun}
use Rattle.clone_runs.specs.Keeping.{Keeps}
use Rattle.clone_runs.specs.Marks.{NoneAfter, NoneIn}
use Rattle.clone_runs.proofs.MarkLemmas.{after_append, after_quiet, none_append}

module _ {S C A K : Type 0} (steps : S → C → A → S → Type 0) (puts : Entry S C A → List K) (opens leaves : K → Bool) (has_left : S → Bool) (keeps : Keeps steps puts opens leaves has_left) where
  quiet_run : (first : S) (run : List (Entry S C A)) → has_left first ≡ true → IsLegalRun steps first run → NoneIn opens (flat_map puts run)
  quiet_run first [] left legal = tt
  quiet_run first (e ∷ es) left legal =
      none_append opens (puts e) (flat_map puts es) (keeps.quiet first e legal.0 left) (quiet_run e.after es (keeps.stays first e legal.0 left) legal.1)

  pub kept_run : (first : S) (run : List (Entry S C A)) → IsLegalRun steps first run → NoneAfter opens leaves (flat_map puts run)
  kept_run first [] legal = tt
  kept_run first (e ∷ es) legal = by (has_left e.after) refl (kept_run e.after es legal.1)
    where
      by : (b : Bool) → has_left e.after ≡ b → NoneAfter opens leaves (flat_map puts es) → NoneAfter opens leaves (puts e ++ flat_map puts es)
      by true left rest = after_append opens leaves (puts e) (flat_map puts es) (keeps.order first e legal.0) (quiet_run e.after es left legal.1)
      by false still rest = after_quiet opens leaves (puts e) (flat_map puts es) (keeps.marks first e legal.0 still) rest
