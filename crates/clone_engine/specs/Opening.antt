-- Why a donor isn't opened, by what a call below was refused for.
use Rattle.clone_outside.specs.declared.Refusal.{Refusal}
use Rattle.clone_outside.specs.declared.Refusal.TheVariants.{Fault, NoMemory}
use Rattle.clone_trx.specs.declared.opening.OpenRefusal.{OpenRefusal}
use Rattle.clone_trx.specs.declared.opening.OpenRefusal.TheVariants as below
use Rattle.clone_engine.specs.declared.opening.OpenCause.{OpenCause}
use Rattle.clone_engine.specs.declared.opening.OpenCause.TheVariants as causes

abbrev pub cause_of : Refusal → OpenCause
cause_of Fault = causes.DiskFault
cause_of NoMemory = causes.NoMemory

abbrev pub cause_after : OpenRefusal → OpenCause
cause_after below.DiskFault = causes.DiskFault
cause_after below.NoMemory = causes.NoMemory
