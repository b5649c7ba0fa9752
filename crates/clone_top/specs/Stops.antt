-- What a refusal of the source stops the reading with, and how much of the source was taken.
use Rattle.std.specs.Prelude.{ℕ, ◌≡◌, ◌≤◌, ◌⊎◌, List, length}
use Rattle.std.specs.declared.option.Option.{Option}
use Rattle.clone_outside.specs.Bytes.{prepended}
use Rattle.clone_outside.specs.declared.Refusal.{Refusal}
use Rattle.clone_outside.specs.declared.Refusal.TheVariants.{Fault, NoMemory}
use Rattle.clone_top.specs.declared.read.ReadStop.{ReadStop}
use Rattle.clone_top.specs.declared.read.ReadStop.TheVariants as stops

abbrev pub stop_of : Refusal → ReadStop
stop_of Fault = stops.Fault
stop_of NoMemory = stops.Memory

-- no more than so many bytes were taken of what was left
pub record TookAtMost (count : ℕ) (old new : Option (List ℕ)) : Type 0 where
  pub bytes : List ℕ
  pub taken : old ≡ prepended bytes new
  pub few : length bytes ≤ count

-- The source is as a read that failed left it, and none was made after that: so many bytes were
-- given before, without a failure, and that read gave none.
abbrev pub LeftByFailure : {S : Type 0} → (S → Option (List ℕ)) → (S → ℕ) → S → S → Type 0
LeftByFailure {S} left failures old new =
    (at : S) × (failures at ≡ failures old) × (left new ≡ left at)
    × (bytes : List ℕ) × (left old ≡ prepended bytes (left at))

-- no read of it has failed, or the last one
abbrev pub StopsAtFailure : {S : Type 0} → (S → Option (List ℕ)) → (S → ℕ) → S → S → Type 0
StopsAtFailure left failures old new =
    (failures new ≡ failures old) ⊎ LeftByFailure left failures old new
