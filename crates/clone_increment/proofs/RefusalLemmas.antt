-- What a copy answers where the disk refuses.
use Rattle.std.proofs.Common.{◌≡◌, ℕ, IfErr, IsErrAnd, IsSome, Ok, Err, refl, sym, subst, ap, ◌∙◌}
use Rattle.std.specs.Prelude.{Result}
use Rattle.std.specs.declared.option.Option.{Option}
use Rattle.clone_outside.specs.declared.Refusal.{Refusal}
use Rattle.clone_outside.specs.declared.Refusal.TheVariants as outside
use Rattle.clone_increment.specs.Refusals.{refused}
use Rattle.clone_increment.specs.Tracked.{Changed, MayRefuseFull, MayRefuseIncrement}
use Rattle.clone_increment.specs.declared.refusal.BackupRefusal.{BackupRefusal}
use Rattle.clone_increment.specs.declared.refusal.BackupRefusal.TheVariants as refusal

pub full_refused : {T : Type 0} (writes : ℕ) (result : Result T BackupRefusal) (why : Refusal) → writes ≡ 0 → IsErrAnd result (λ r. r ≡ refused why) → IfErr result (MayRefuseFull writes)
full_refused writes (Ok x) why none is = tt
full_refused writes (Err r) why none is = subst (MayRefuseFull writes) (sym is) (at why)
  where
    at : (w : Refusal) → MayRefuseFull writes (refused w)
    at outside.Fault = none
    at outside.NoMemory = none

pub increment_refused : {T : Type 0} (writes : ℕ) (since : Option Changed) (result : Result T BackupRefusal) (why : Refusal) → writes ≡ 0 → IsSome since → IsErrAnd result (λ r. r ≡ refused why) → IfErr result (MayRefuseIncrement writes since)
increment_refused writes since (Ok x) why none some is = tt
increment_refused writes since (Err r) why none some is = subst (MayRefuseIncrement writes since) (sym is) (at why)
  where
    at : (w : Refusal) → MayRefuseIncrement writes since (refused w)
    at outside.Fault = (none, some)
    at outside.NoMemory = (none, some)

same_refusal : {T : Type 0} (a b : BackupRefusal) → ◌≡◌ {A = Result T BackupRefusal} (Err a) (Err b) → a ≡ b
same_refusal a b e = cc

-- a fault that is answered is the disk's
pub disk_failed : {T : Type 0} (result : Result T BackupRefusal) (why : Refusal) → IsErrAnd result (λ r. r ≡ refused why) → result ≡ Err refusal.DiskFault → why ≡ outside.Fault
disk_failed (Ok x) why is e = absurd is
disk_failed (Err r) why is e = at why (sym is ∙ same_refusal r refusal.DiskFault e)
  where
    at : (w : Refusal) → refused w ≡ refusal.DiskFault → w ≡ outside.Fault
    at outside.Fault e = refl
    at outside.NoMemory e = absurd (let wrong : refusal.NoMemory ≡ refusal.DiskFault = e in cc)
