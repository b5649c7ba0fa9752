-- What contracts see of a disk of files. Of what the files hold they see nothing.
use Rattle.std.specs.Prelude.{ℕ, List, [], None, Result, Ok, Err}
use Rattle.clone_outside.specs.Causes.{raised}
use Rattle.clone_outside.specs.DiskCalls.{DiskState}
use Rattle.clone_outside.specs.declared.Refusal.{Refusal}
use Rattle.clone_outside.specs.declared.Refusal.TheVariants.{Fault, NoMemory}
use Rattle.clone_outside.specs.declared.disk.DiskOrder.{DiskOrder}

-- how often it failed, and the orders that it was given
pub record FileDiskModel : Type 0 where
  pub faults : ℕ
  pub orders : List DiskOrder

-- no fault and no order so far
abbrev pub calm : FileDiskModel
calm = record { faults = 0; orders = [] }

-- the count after a call that was answered so: a fault raises it by one
abbrev pub counted : {T : Type 0} → ℕ → Result T Refusal → ℕ
counted faults (Ok x) = faults
counted faults (Err Fault) = raised faults
counted faults (Err NoMemory) = faults

-- the disk after a call that was answered so: a fault raises its count by one, and nothing else
-- changes what is seen of it
abbrev pub after : {T : Type 0} → FileDiskModel → Result T Refusal → FileDiskModel
after disk answer = record disk { faults = counted disk.faults answer }

-- it tells nothing of what it holds, nor of what a stop may leave
abbrev pub state_of : FileDiskModel → DiskState
state_of d = record { told = None; stops = None; failures = d.faults; orders = d.orders }
