-- Why a run isn't begun.
use Rattle.std.specs.Prelude.{◌≡◌, Err, false, None, Some, ⊤}
use Rattle.std.specs.declared.option.Option.{Option}
use Rattle.clone_outside.specs.Causes.{Rose}
use Rattle.clone_outside.specs.Disk.{ForTold}
use Rattle.clone_outside.specs.DiskCalls.{DiskState}
use Rattle.clone_plain.specs.declared.call.EngineCall.{EngineCall}
use Rattle.clone_plain.specs.declared.refusal.Cause.TheVariants.{DiskFault}
use Rattle.clone_plain.specs.declared.refusal.EngineRefusal.{EngineRefusal}
use Rattle.clone_plain.specs.declared.refusal.EngineRefusal.TheVariants.{Because, NoMemory}
use Rattle.clone_engine.specs.Acts.{EngineActs}
use Rattle.clone_engine.specs.Donor.{Donor}
use Rattle.clone_recipient.specs.Receptions.{IsNotEmpty}
use Rattle.clone_recipient.specs.declared.refusal.BeginCause.{BeginCause}
use Rattle.clone_recipient.specs.declared.refusal.BeginCause.TheVariants as begin
use Rattle.clone_run.specs.declared.failure.Failure.{Failure}
use Rattle.clone_run.specs.declared.failure.Failure.TheVariants as failure
use Rattle.clone_run.specs.declared.outcome.Outcome.{Outcome}
use Rattle.clone_run.specs.Tables.{SetsUp}

-- a refusal after which no table is made any more
abbrev pub of_refusal : EngineRefusal → Option Failure
of_refusal (Because DiskFault) = Some failure.DonorDisk
of_refusal (Because cause) = None
of_refusal NoMemory = Some failure.Memory

-- THE DONOR IS SET UP as far as the last call, which is refused so
pub record IsRefused (why : EngineRefusal) (d t : Donor) : Type 0 where
  pub before : Donor
  pub asked : EngineCall
  pub sets_up : SetsUp d before
  pub refused : EngineActs asked (Err why) before t

-- ... and no table is made any more
pub record StopsSetup (failure : Failure) (d t : Donor) : Type 0 where
  pub why : EngineRefusal
  pub refused : IsRefused why d t
  pub is : of_refusal why ≡ Some failure

-- that with which a copy isn't begun
abbrev pub of_cause : BeginCause → Failure
of_cause begin.NotEmpty = failure.NotEmpty
of_cause begin.DiskFault = failure.RecipientDisk
of_cause begin.NoMemory = failure.Memory

-- WHY IT ISN'T BEGUN: a call of the donor was refused since its disk failed, the recipient's disk
-- failed, which its count shows, or it held something; or there was no memory.
abbrev pub Unbegun : Option Failure → Donor → Donor → DiskState → DiskState → Type 0
Unbegun (Some failure.Memory) d t old new = ⊤
Unbegun (Some failure.DonorDisk) d t old new = StopsSetup failure.DonorDisk d t
Unbegun (Some failure.RecipientDisk) d t old new = Rose old.failures new.failures
Unbegun (Some failure.NotEmpty) d t old new = ForTold old.told IsNotEmpty
Unbegun other d t old new = ⊥

-- no job was started
pub record IsGivenUp (o : Outcome) (d t : Donor) (old new : DiskState) : Type 0 where
  pub part : o.whole ≡ false
  pub why : Unbegun o.failure d t old new
