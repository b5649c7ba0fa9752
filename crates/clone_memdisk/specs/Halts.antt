-- The stops that a disk is to make: the first of them is under way, or has come.
use Rattle.std.specs.Prelude.{◌≡◌, ◌⊎◌, ◌≤◌, ◌-◌, ◌==◌, Bool, true, false, List, [], ◌∷◌, ◌++◌, Result, Ok, Err, if◌then◌else◌}
use Rattle.clone_outside.specs.Calls.{Calls, FailsNext}
use Rattle.clone_outside.specs.Causes.{raised}
use Rattle.clone_outside.specs.declared.Refusal.{Refusal}
use Rattle.clone_outside.specs.declared.Refusal.TheVariants.{Fault, NoMemory}
use Rattle.clone_memdisk.specs.declared.halts.Halt.{Halt}

-- the disk has stopped: the first of the stops has no calls left
abbrev pub has_stopped : List Halt → Bool
has_stopped [] = false
has_stopped (h ∷ hs) = h.calls == 0

-- a call more was carried out
abbrev pub nearer : List Halt → List Halt
nearer [] = []
nearer (h ∷ hs) = record h { calls = h.calls - 1 } ∷ hs

-- one stop more, where the changes of the disk are kept
abbrev pub halting : Bool → Halt → List Halt → List Halt
halting kept halt halts = if kept then halts ++ halt ∷ [] else halts

-- a call is carried out: it wasn't named, and the disk hasn't stopped
pub record Goes (old new : Calls) (before after : List Halt) : Type 0 where
  pub calls : new ≡ record old { made = raised old.made }
  pub halts : after ≡ nearer before
  pub unnamed : FailsNext old → ⊥
  pub runs : has_stopped before ≡ false

-- a call fails, since it was named or the disk has stopped
pub record Fails (old new : Calls) (before after : List Halt) : Type 0 where
  pub calls : new ≡ record old { made = raised old.made; faults = raised old.faults }
  pub halts : after ≡ before
  pub cause : FailsNext old ⊎ (has_stopped before ≡ true)
  pub later : old.faults ≤ new.faults

-- a call that was answered so
abbrev pub IsCall : {T : Type 0} → Result T Refusal → Calls → Calls → List Halt → List Halt
    → Type 0
IsCall (Ok x) old new before after = Goes old new before after
IsCall (Err Fault) old new before after = Fails old new before after
IsCall (Err NoMemory) old new before after = Goes old new before after
