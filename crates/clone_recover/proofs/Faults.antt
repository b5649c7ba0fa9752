-- Refusals of a disk and of what is read of it. None of them says that a clone is incomplete.
use Rattle.std.proofs.Common.{◌≡◌, ℕ, sym, subst, ◌∙◌, Some, None}
use Rattle.std.specs.declared.option.Option.{Option}
use Rattle.clone_overlay.specs.Covers.{Overlay}
use Rattle.clone_overlay.specs.declared.overlay.FetchRefusal.{FetchRefusal}
use Rattle.clone_overlay.specs.declared.overlay.FetchRefusal.TheVariants as fetch
use Rattle.clone_outside.specs.Disk.{DiskImage, ForTold}
use Rattle.clone_outside.specs.declared.mark.CloneEnd.{CloneEnd}
use Rattle.clone_outside.specs.declared.Refusal.{Refusal}
use Rattle.clone_outside.specs.declared.Refusal.TheVariants as outside
use Rattle.clone_recover.specs.Refusals.{refusal_of, not_fetched, IsOfDisk}
use Rattle.clone_recover.specs.Reading.{IsOfRedo, IsNoRedo, IsNoRedoOn}
use Rattle.clone_recover.specs.Restores.{IsCause, IsDamaged, DamagedOn, IsRedoCause}
use Rattle.clone_recover.specs.declared.refusal.Why.{Why}
use Rattle.clone_recover.specs.declared.refusal.RecoverRefusal.{RecoverRefusal}
use Rattle.clone_recover.specs.declared.refusal.RecoverRefusal.TheVariants.{Incomplete, Damaged, DiskFault, NoMemory}

pub of_disk : (cause : Refusal) → IsOfDisk (refusal_of cause)
of_disk outside.Fault = tt
of_disk outside.NoMemory = tt

pub disk_known : (e : RecoverRefusal) → IsOfDisk e → e ≡ Incomplete → ⊥
disk_known e of is = subst IsOfDisk is of

pub disk_undamaged : (e : RecoverRefusal) (s p : ℕ) (w : Why) → IsOfDisk e → e ≡ Damaged s p w → ⊥
disk_undamaged e s p w of is = subst IsOfDisk is of

pub redo_known : (e : RecoverRefusal) → IsOfRedo e → e ≡ Incomplete → ⊥
redo_known e of is = subst IsOfRedo is of

named : (s n : ℕ) (cause : FetchRefusal) → not_fetched s n cause ≡ Incomplete → ⊥
named s n fetch.Header is = absurd (let e = is in cc)
named s n fetch.DiskFault is = absurd (let e = is in cc)
named s n fetch.NoMemory is = absurd (let e = is in cc)

pub fetch_known : (s n : ℕ) (cause : FetchRefusal) (e : RecoverRefusal) → e ≡ not_fetched s n cause → e ≡ Incomplete → ⊥
fetch_known s n cause e is same = named s n cause (sym is ∙ same)

-- A fault, or memory that ran out, stands behind each of them.

disk_is_cause : (e : RecoverRefusal) (m : DiskImage) → IsOfDisk e → IsCause m e
disk_is_cause Incomplete m is = absurd is
disk_is_cause (Damaged s p w) m is = absurd is
disk_is_cause DiskFault m is = tt
disk_is_cause NoMemory m is = tt

pub disk_cause : (told : Option DiskImage) (e : RecoverRefusal) → IsOfDisk e → ForTold told (λ m. IsCause m e)
disk_cause None e is = tt
disk_cause (Some m) e is = disk_is_cause e m is

no_redo : (e : RecoverRefusal) (m : DiskImage) (total : ℕ) → IsOfDisk e → IsNoRedo m total e
no_redo Incomplete m total is = absurd is
no_redo (Damaged s p w) m total is = absurd is
no_redo DiskFault m total is = tt
no_redo NoMemory m total is = tt

pub disk_no_redo : (told : Option DiskImage) (total : ℕ) (e : RecoverRefusal) → IsOfDisk e → IsNoRedoOn told total e
disk_no_redo None total e is = tt
disk_no_redo (Some m) total e is = λ quiet. no_redo e m total is

damaged : (e : RecoverRefusal) (m : DiskImage) (end : CloneEnd) → IsOfDisk e → IsDamaged m end e
damaged Incomplete m end is = absurd is
damaged (Damaged s p w) m end is = absurd is
damaged DiskFault m end is = tt
damaged NoMemory m end is = tt

pub disk_damage : (told : Option DiskImage) (end : CloneEnd) (e : RecoverRefusal) → IsOfDisk e → DamagedOn told end e
disk_damage None end e is = tt
disk_damage (Some m) end e is = λ quiet. damaged e m end is

pub disk_redo_cause : (told : Option DiskImage) (end : CloneEnd) (first : Overlay) (e : RecoverRefusal) → IsOfDisk e → IsRedoCause told end first e
disk_redo_cause None end first e is = tt
disk_redo_cause (Some m) end first e is = λ quiet has shows. damaged e m end is
