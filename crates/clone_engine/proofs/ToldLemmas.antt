-- Facts that hold where a disk tells what it holds, and of what an option holds.
use Rattle.std.proofs.Common.{◌≡◌, ◌∙◌, inl, inr, Option, None, Some, is_some, ap, subst, sym}
use Rattle.std.specs.Option.{ForSome}
use Rattle.clone_outside.specs.Disk.{DiskImage, ForTold, IsBeforeOrAfter, Steps}
use Rattle.clone_flush.proofs.FlightLemmas.{told_stepped}

-- a fact of what is told, by another
pub for_told : (P Q : DiskImage → Type 0) (told : Option DiskImage) → ((m : DiskImage) → P m → Q m) → ForTold told P → ForTold told Q
for_told P Q None to had = tt
for_told P Q (Some m) to had = to m had

-- A disk that is as before, or a step further, tells as before, and what follows of a fact of it.
module _ (before after : Option DiskImage) (step : DiskImage → DiskImage) where
  pub step_tells : Steps before after step → is_some after ≡ is_some before
  step_tells = by before
    where
      by : (told : Option DiskImage) → Steps told after step → is_some after ≡ is_some told
      by None is = ap is_some is
      by (Some m) is = ap is_some is

  pub either_tells : IsBeforeOrAfter before after step → is_some after ≡ is_some before
  either_tells (inl same) = ap is_some same
  either_tells (inr made) = step_tells made

  pub told_either : (P Q : DiskImage → Type 0) → IsBeforeOrAfter before after step → ((m : DiskImage) → P m → Q m) → ((m : DiskImage) → P m → Q (step m)) → ForTold before P → ForTold after Q
  told_either P Q (inl same) stay go had = subst (λ (told : Option DiskImage). ForTold told Q) (sym same) (for_told P Q before stay had)
  told_either P Q (inr made) stay go had = told_stepped P Q before after step made go had

-- What follows of a fact of a disk that tells as another did.
pub told_stays : (X Y : Type 0) (old new : Option DiskImage) → is_some new ≡ is_some old → (X → Y) → ForTold old (λ m. X) → ForTold new (λ m. Y)
told_stays X Y old None tells to had = tt
told_stays X Y None (Some m) tells to had = absurd (cc)
told_stays X Y (Some n) (Some m) tells to had = to had

-- what holds of any disk
pub told_always : (X : Type 0) (told : Option DiskImage) → X → ForTold told (λ m. X)
told_always X None is = tt
told_always X (Some m) is = is

-- with another fact of the disk as it is now
pub told_with : (P : DiskImage → Type 0) (X Y : Type 0) (old new : Option DiskImage) → is_some new ≡ is_some old → ((m : DiskImage) → P m → X → Y) → ForTold new P → ForTold old (λ m. X) → ForTold new (λ m. Y)
told_with P X Y old None tells to is had = tt
told_with P X Y None (Some m) tells to is had = absurd (cc)
told_with P X Y (Some n) (Some m) tells to is had = to m is had

-- a fact of a disk that tells
pub of_told : (P : DiskImage → Type 0) (told : Option DiskImage) (m : DiskImage) → told ≡ Some m → ForTold told P → P m
of_told P None m is had = absurd (cc)
of_told P (Some n) m is had = subst P (let same : n ≡ m = cc in same) had

-- what follows of one fact where another holds of a disk that tells
pub told_if : (X : Type 0) (P Q : DiskImage → Type 0) (old new : Option DiskImage) → is_some new ≡ is_some old → ForTold old (λ m. X) → (X → ForTold old P → ForTold new Q) → ForTold old P → ForTold new Q
told_if X P Q None None tells is to had = tt
told_if X P Q None (Some m) tells is to had = absurd (cc)
told_if X P Q (Some n) new tells is to had = to is had

-- what follows of two facts of one disk
pub told_both : (P Q R : DiskImage → Type 0) (told : Option DiskImage) → ((m : DiskImage) → P m → Q m → R m) → ForTold told P → ForTold told Q → ForTold told R
told_both P Q R None to first second = tt
told_both P Q R (Some m) to first second = to m first second

-- a fact of the one value that there is
pub for_one : {X : Type 0} (P : X → Type 0) (o : Option X) (x : X) → o ≡ Some x → P x → ForSome o P
for_one P o x is had y some = let both : Some x ≡ Some y = sym is ∙ some in let one : x ≡ y = cc in subst P one had
