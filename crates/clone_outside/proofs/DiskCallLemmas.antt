-- What calls do to a disk, said with less.
use Rattle.std.proofs.Common.{◌≡◌, ◌∙◌, inl, inr, ℕ, ap, Option, None, Some, is_some, refl, Result, Ok, Err, arith}
use Rattle.clone_outside.specs.Disk.{DiskImage, Steps, IsBeforeOrAfter, Opens}
use Rattle.clone_outside.specs.DiskCalls.{DiskState, Reads, Alters, Changes, Takes, Works}
use Rattle.clone_outside.specs.Stops.{DiskChange}
use Rattle.clone_outside.specs.declared.Refusal.{Refusal}
use Rattle.clone_outside.specs.declared.Refusal.TheVariants.{Fault, NoMemory}

-- with fewer faults
pub weaker : {P Q : Type 0} {s t : DiskState} → Reads P s t → (Q → P) → Reads Q s t
weaker r to = record {
  told = r.told;
  stops = r.stops;
  orders = r.orders;
  later = r.later;
  fault = λ q. r.fault (to q);
}

-- A disk that changes tells as before whether it tells.

abbrev SameTold : Option DiskImage → Option DiskImage → Type 0
SameTold old new = is_some new ≡ is_some old

pub steps_tell : (old new : Option DiskImage) (step : DiskImage → DiskImage) → Steps old new step → SameTold old new
steps_tell None new step is = ap is_some is
steps_tell (Some m) new step is = ap is_some is

either_tells : (old new : Option DiskImage) (step : DiskImage → DiskImage) → IsBeforeOrAfter old new step → SameTold old new
either_tells old new step (inl same) = ap is_some same
either_tells old new step (inr is) = steps_tell old new step is

module _ {T : Type 0} {change : DiskChange} {step : DiskImage → DiskImage} {Faults : Option DiskImage → Option DiskImage → Type 0} {old new : DiskState} (tell : Faults old.told new.told → SameTold old.told new.told) where
  change_tells : (result : Result T Refusal) → Changes change step Faults old new result → SameTold old.told new.told
  change_tells (Ok x) is = steps_tell old.told new.told step is.done
  change_tells (Err Fault) is = tell (is.failed refl)
  change_tells (Err NoMemory) is = ap is_some (is.memory refl)

  change_works : (result : Result T Refusal) → Changes change step Faults old new result → Works old new result
  change_works result is =
      record { tells = change_tells result is; orders = is.orders; later = is.later; fault = is.fault }

pub takes_work : {T : Type 0} {change : DiskChange} {step : DiskImage → DiskImage} {old new : DiskState} (result : Result T Refusal) → Takes change step old new result → Works old new result
takes_work {step} {old} {new} result is = change_works (either_tells old.told new.told step) result is

pub writes_work : {T : Type 0} {change : DiskChange} {step : DiskImage → DiskImage} {old new : DiskState} (space page : ℕ) (result : Result T Refusal) → Changes change step (Opens space page) old new result → Works old new result
writes_work {old} {new} space page result is = change_works (λ opens. steps_tell old.told new.told _ opens.1) result is

-- Calls one after the other.

pub reads_none : {s : DiskState} → Reads ⊥ s s
reads_none =
    record { told = refl; stops = refl; orders = refl; later = omega arith; fault = λ none. absurd none }

pub reads_then : {P Q : Type 0} {s t u : DiskState} → Reads P s t → Reads Q t u → Reads ⊥ s u
reads_then a b = record {
  told = b.told ∙ a.told;
  stops = b.stops ∙ a.stops;
  orders = b.orders ∙ a.orders;
  later = omega (arith, a.later, b.later);
  fault = λ none. absurd none;
}

pub works_none : {s : DiskState} → Alters ⊥ s s
works_none = record { tells = refl; orders = refl; later = omega arith; fault = λ none. absurd none }

pub works_then : {P Q : Type 0} {s t u : DiskState} → Alters P s t → Alters Q t u → Alters ⊥ s u
works_then a b = record {
  tells = b.tells ∙ a.tells;
  orders = b.orders ∙ a.orders;
  later = omega (arith, a.later, b.later);
  fault = λ none. absurd none;
}

-- calls that ended as the last of them did
pub reads_last : {P Q R : Type 0} {s t u : DiskState} → Reads P s t → Reads Q t u → (R → Q) → Reads R s u
reads_last a b to = record {
  told = b.told ∙ a.told;
  stops = b.stops ∙ a.stops;
  orders = b.orders ∙ a.orders;
  later = omega (arith, a.later, b.later);
  fault = λ r. let rose = b.fault (to r) in omega (arith, a.later, rose);
}
