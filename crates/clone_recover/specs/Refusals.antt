-- The refusals of a disk and of a fetch as refusals of recovery.
use Rattle.std.specs.Prelude.{ℕ, ⊤}
use Rattle.clone_outside.specs.declared.Refusal.{Refusal}
use Rattle.clone_outside.specs.declared.Refusal.TheVariants as outside
use Rattle.clone_overlay.specs.declared.overlay.FetchRefusal.{FetchRefusal}
use Rattle.clone_overlay.specs.declared.overlay.FetchRefusal.TheVariants as fetch
use Rattle.clone_recover.specs.declared.refusal.Why.TheVariants as why
use Rattle.clone_recover.specs.declared.refusal.RecoverRefusal.{RecoverRefusal}
use Rattle.clone_recover.specs.declared.refusal.RecoverRefusal.TheVariants.{Incomplete, Damaged, DiskFault, NoMemory}

abbrev pub refusal_of : Refusal → RecoverRefusal
refusal_of outside.Fault = DiskFault
refusal_of outside.NoMemory = NoMemory

-- the page of this number of this space isn't fetched
abbrev pub not_fetched : ℕ → ℕ → FetchRefusal → RecoverRefusal
not_fetched space page fetch.Header = Damaged space page why.Header
not_fetched space page fetch.DiskFault = DiskFault
not_fetched space page fetch.NoMemory = NoMemory

-- the disk failed, or there was no memory
abbrev pub IsOfDisk : RecoverRefusal → Type 0
IsOfDisk Incomplete = ⊥
IsOfDisk (Damaged space page why) = ⊥
IsOfDisk DiskFault = ⊤
IsOfDisk NoMemory = ⊤
