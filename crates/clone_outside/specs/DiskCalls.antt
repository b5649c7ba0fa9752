-- What a disk tells, and what its calls do to that.
use Rattle.std.specs.Prelude.{ℕ, ◌≡◌, ◌⊎◌, ◌≤◌, ◌++◌, ◌∷◌, List, [], Result, Ok, Err, OnOk, IsErrOf, is_some}
use Rattle.std.specs.declared.option.Option.{Option}
use Rattle.clone_outside.specs.Causes.{Rose}
use Rattle.clone_outside.specs.Disk.{DiskImage, Steps, IsBeforeOrAfter, Opens, with_page}
use Rattle.clone_outside.specs.Stops.{DiskChange, Moments, GoesOn, IsHeld, Notes, Settles}
use Rattle.clone_outside.specs.declared.Refusal.{Refusal}
use Rattle.clone_outside.specs.declared.Refusal.TheVariants.{Fault, NoMemory}
use Rattle.clone_outside.specs.declared.disk.DiskOrder.{DiskOrder}
use Rattle.clone_outside.specs.declared.disk.DiskOrder.TheVariants.{FailAt, Tear, Stop, Again}
use Rattle.clone_outside.specs.declared.disk.Held.{Held}

-- What a disk tells: what it holds and what a stop may leave at each moment so far, each of them
-- none where that is not told, how often it has failed, and the orders that it was given.
pub record DiskState : Type 0 where
  pub told : Option DiskImage
  pub stops : Option Moments
  pub failures : ℕ
  pub orders : List DiskOrder

-- CALLS THAT ONLY READ. Where they ended with a fault the count rose.
pub record Reads (Faulty : Type 0) (old new : DiskState) : Type 0 where
  pub told : new.told ≡ old.told
  pub stops : new.stops ≡ old.stops
  pub orders : new.orders ≡ old.orders
  pub later : old.failures ≤ new.failures
  pub fault : Faulty → Rose old.failures new.failures

abbrev pub Asks : {T : Type 0} → DiskState → DiskState → Result T Refusal → Type 0
Asks old new result = Reads (IsErrOf result Fault) old new

-- CALLS OF ANY KIND. The orders stay, and where they ended with a fault the count rose.
pub record Counts (Faulty : Type 0) (old new : DiskState) : Type 0 where
  pub orders : new.orders ≡ old.orders
  pub later : old.failures ≤ new.failures
  pub fault : Faulty → Rose old.failures new.failures

-- CALLS THAT MAY CHANGE what the disk holds, and not whether that is told
pub record Alters (Faulty : Type 0) (old new : DiskState) : Type 0 where
  pub tells : is_some new.told ≡ is_some old.told
  pub orders : new.orders ≡ old.orders
  pub later : old.failures ≤ new.failures
  pub fault : Faulty → Rose old.failures new.failures

abbrev pub Works : {T : Type 0} → DiskState → DiskState → Result T Refusal → Type 0
Works old new result = Alters (IsErrOf result Fault) old new

-- A CALL THAT CHANGES what the disk holds, by this step where it is answered Ok. A stop may leave
-- the change half done. What is told after the call is one of the images that a stop may leave.
pub record Changes {T : Type 0} (change : DiskChange) (step : DiskImage → DiskImage)
    (Faults : Option DiskImage → Option DiskImage → Type 0) (old new : DiskState)
    (result : Result T Refusal) : Type 0 where
  pub done : OnOk result (Steps old.told new.told step)
  pub failed : IsErrOf result Fault → Faults old.told new.told
  pub memory : IsErrOf result NoMemory → new.told ≡ old.told
  pub stops : Notes old.stops new.stops change
  pub held : IsHeld new.told new.stops
  pub orders : new.orders ≡ old.orders
  pub later : old.failures ≤ new.failures
  pub fault : IsErrOf result Fault → Rose old.failures new.failures

-- one that is before or after that step where it failed
abbrev pub Takes : {T : Type 0} → DiskChange → (DiskImage → DiskImage) → DiskState → DiskState
    → Result T Refusal → Type 0
Takes change step old new result =
    Changes change step (λ before after. IsBeforeOrAfter before after step) old new result

-- a half write, after a fault of which the page is open
abbrev pub Writes : {T : Type 0} → (ℕ → ℕ → DiskChange) → ℕ → ℕ → (Held → Held) → DiskState
    → DiskState → Result T Refusal → Type 0
Writes change space page edit old new result =
    Changes (change space page) (λ m. with_page m space page edit) (Opens space page) old new result

-- A SYNC: what the disk holds stays from now on, where it is answered Ok
abbrev pub IsSettled : {T : Type 0} → Result T Refusal → DiskState → DiskState → Type 0
IsSettled (Ok x) old new = Settles old.told old.stops new.stops
IsSettled (Err e) old new = new.stops ≡ old.stops

pub record Syncs {T : Type 0} (old new : DiskState) (result : Result T Refusal) : Type 0 where
  pub told : new.told ≡ old.told
  pub stops : IsSettled result old new
  pub orders : new.orders ≡ old.orders
  pub later : old.failures ≤ new.failures
  pub fault : IsErrOf result Fault → Rose old.failures new.failures

-- AN ORDER was given, or there was no memory for it
abbrev pub with_order : DiskOrder → DiskState → DiskState
with_order order disk = record disk { orders = disk.orders ++ order ∷ [] }

abbrev pub Orders : {X E : Type 0} → DiskOrder → DiskState → DiskState → Result X E → Type 0
Orders order old new (Ok x) = new ≡ with_order order old
Orders order old new (Err e) = new ≡ old

-- a disk that goes on after a stop
pub record Restarts (old new : DiskState) : Type 0 where
  pub goes_on : GoesOn old.stops new.told new.stops
  pub failures : new.failures ≡ old.failures
  pub orders : new.orders ≡ old.orders ++ Again ∷ []

-- An order that was given changes nothing but the orders; but after a stop a disk may go on with
-- what the stop left.
abbrev pub IsGiven : DiskOrder → DiskState → DiskState → Type 0
IsGiven (FailAt call) old new = new ≡ with_order (FailAt call) old
IsGiven (Tear byte) old new = new ≡ with_order (Tear byte) old
IsGiven (Stop calls choice) old new = new ≡ with_order (Stop calls choice) old
IsGiven Again old new = (new ≡ with_order Again old) ⊎ Restarts old new
