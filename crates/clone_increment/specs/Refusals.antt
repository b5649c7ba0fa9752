-- Why a copy is refused where the disk refuses.
use Rattle.clone_outside.specs.declared.Refusal.{Refusal}
use Rattle.clone_outside.specs.declared.Refusal.TheVariants as outside
use Rattle.clone_increment.specs.declared.refusal.BackupRefusal.{BackupRefusal}
use Rattle.clone_increment.specs.declared.refusal.BackupRefusal.TheVariants as refusal

-- a refusal of the disk
abbrev pub refused : Refusal → BackupRefusal
refused outside.Fault = refusal.DiskFault
refused outside.NoMemory = refusal.NoMemory
