-- What a failed call on the disk is to the clone.
use Rattle.clone_outside.specs.declared.Refusal.{Refusal}
use Rattle.clone_outside.specs.declared.Refusal.TheVariants.{Fault, NoMemory}
use Rattle.clone_recipient.specs.declared.refusal.BeginCause.{BeginCause}
use Rattle.clone_recipient.specs.declared.refusal.BeginCause.TheVariants as begin
use Rattle.clone_recipient.specs.declared.refusal.TakeRefusal.{TakeRefusal}
use Rattle.clone_recipient.specs.declared.refusal.TakeRefusal.TheVariants as take

abbrev pub begin_cause : Refusal → BeginCause
begin_cause Fault = begin.DiskFault
begin_cause NoMemory = begin.NoMemory

abbrev pub take_refusal : Refusal → TakeRefusal
take_refusal Fault = take.DiskFault
take_refusal NoMemory = take.NoMemory
