-- The faults of a donor's disk, over each call of the donor, by its answer.
use Rattle.std.proofs.Common.{ℕ, ◌≡◌, ◌≤◌, ◌∙◌, Bool, true, false, not, Option, None, Some, Result, Ok, Err, sym, ap}
use Rattle.std.specs.FinMap as finite
use Rattle.std.specs.Prelude.{unwrap_or}
use Rattle.clone_outside.specs.DiskCalls.{DiskState}
use Rattle.clone_chunk.specs.declared.cause.CloneCause.{CloneCause}
use Rattle.clone_session.specs.Cloning.{Session}
use Rattle.clone_session.specs.declared.caller.Caller.{Caller}
use Rattle.clone_session.specs.declared.refusal.CloneRefusal.{CloneRefusal}
use Rattle.clone_session.specs.declared.refusal.CloneRefusal.TheVariants as refusal
use Rattle.clone_plain.specs.Causes.{no_table, whether}
use Rattle.clone_plain.specs.declared.call.EngineAnswer.{EngineAnswer}
use Rattle.clone_plain.specs.declared.call.EngineAnswer.TheVariants as answers
use Rattle.clone_plain.specs.declared.call.EngineCall.{EngineCall}
use Rattle.clone_plain.specs.declared.call.EngineCall.TheVariants as to_engine
use Rattle.clone_plain.specs.declared.refusal.Cause.{Cause}
use Rattle.clone_plain.specs.declared.refusal.Cause.TheVariants as cause
use Rattle.clone_plain.specs.declared.refusal.EngineRefusal.{EngineRefusal}
use Rattle.clone_plain.specs.declared.refusal.EngineRefusal.TheVariants as engine
use Rattle.clone_calls.specs.declared.answer.DonorAnswer.{DonorAnswer}
use Rattle.clone_calls.specs.declared.answer.DonorAnswer.TheVariants as given
use Rattle.clone_calls.specs.declared.block.BlockRefusal.{BlockRefusal}
use Rattle.clone_calls.specs.declared.block.BlockRefusal.TheVariants as unread
use Rattle.clone_calls.specs.declared.call.DonorCall.{DonorCall}
use Rattle.clone_calls.specs.declared.call.DonorCall.TheVariants as asked
use Rattle.clone_engine.specs.Acts.{Acts, Calls}
use Rattle.clone_engine.specs.Answering.{Answered, CarriesOut}
use Rattle.clone_engine.specs.Copying.{RefusesBlock, Settles}
use Rattle.clone_engine.specs.Donor.{Donor}
use Rattle.clone_engine.specs.Engine.{Engine}
use Rattle.clone_engine.specs.Reading.{OnlyVisits}
use Rattle.clone_engine.specs.Serving.{AnswersCall, Drops, ServesAs}
use Rattle.clone_engine.specs.Steps.{Ends, Looks, Serves}
use Rattle.clone_machine.specs.Sharing.{SharedDonor, Steps}
use Rattle.clone_machine.specs.declared.calls.JobAnswer.{JobAnswer}
use Rattle.clone_machine.specs.declared.calls.JobAnswer.TheVariants as answer
use Rattle.clone_machine.specs.declared.calls.JobCall.{JobCall}
use Rattle.clone_machine.specs.declared.calls.JobCall.TheVariants as call
use Rattle.clone_causes.proofs.CountLemmas.{Counts, counts_same}

-- ---- AN ANSWER THAT TELLS OF A FAULT

abbrev EngineFails : Result EngineAnswer EngineRefusal → Type 0
EngineFails result = result ≡ Err (engine.Because cause.DiskFault)

abbrev pub DonorFails : DonorAnswer → Type 0
DonorFails (given.Engine result) = EngineFails result
DonorFails (given.ReadBlock result) = result ≡ Err (unread.Engine (engine.Because cause.DiskFault))
DonorFails other = ⊥

abbrev pub DiskFails : JobAnswer → Type 0
DiskFails (answer.Donor result) = DonorFails result
DiskFails other = ⊥

-- ---- a call of the engine

abbrev Over : Type 0 → Engine → Engine → Type 0
Over Faulty s t = Counts Faulty s.disk.failures t.disk.failures

over_same : (Faulty : Type 0) (s t : Engine) → t ≡ s → (Faulty → ⊥) → Over Faulty s t
over_same Faulty s t same never = counts_same Faulty s.disk.failures t.disk.failures (ap (λ (e : Engine). e.disk.failures) same) never

over_served : (s t : Engine) (result : Result EngineAnswer EngineRefusal) → Serves s.disk t.disk result → Over (EngineFails result) s t
over_served s t result serves = record { later = serves.visits.later; fault = serves.fault }

looks : (s t : Engine) (did : EngineAnswer) → Looks s t did → t ≡ s
looks s t (answers.OldestDirty page) is = is.1
looks s t did is = absurd is

ends : (s t : Engine) (did : EngineAnswer) → Ends s t did → t ≡ s
ends s t (answers.End lsn) is = is.1
ends s t did is = absurd is

done_well : (did : EngineAnswer) → EngineFails (Ok did) → ⊥
done_well did is = cc

over_step : (c : EngineCall) (d : Donor) (e : Engine) (result : Result EngineAnswer EngineRefusal) → ServesAs c d e result → Over (EngineFails result) d.engine e
over_step (to_engine.Create table buckets) d e result is = over_served d.engine e result is.disk
over_step (to_engine.Drop table) d e result is = over_served d.engine e result is.disk
over_step (to_engine.Begin writer index) d e result is = over_served d.engine e result is.disk
over_step (to_engine.Put trx table key value) d e result is = over_served d.engine e result is.disk
over_step (to_engine.Delete trx table key) d e result is = over_served d.engine e result is.disk
over_step (to_engine.Get trx table key) d e result is = over_served d.engine e result is.disk
over_step (to_engine.UndoOne trx) d e result is = over_served d.engine e result is.disk
over_step (to_engine.Commit trx) d e result is = over_served d.engine e result is.disk
over_step (to_engine.FlushBegin space page) d e result is = over_served d.engine e result is.disk
over_step (to_engine.FlushHalf space page) d e result is = over_served d.engine e result is.disk
over_step (to_engine.FlushLand space page) d e result is = over_served d.engine e result is.disk
over_step to_engine.OldestDirty d e (Ok did) is = over_same (EngineFails (Ok did)) d.engine e (looks d.engine e did is) (done_well did)
over_step to_engine.OldestDirty d e (Err why) is = absurd is
over_step to_engine.Checkpoint d e (Ok (answers.Checkpoint lsn)) is =
    counts_same (EngineFails (Ok (answers.Checkpoint lsn))) d.engine.disk.failures e.disk.failures (ap (λ (k : DiskState). k.failures) is.disk) (done_well (answers.Checkpoint lsn))
over_step to_engine.Checkpoint d e result is = absurd is
over_step to_engine.End d e (Ok did) is = over_same (EngineFails (Ok did)) d.engine e (ends d.engine e did is) (done_well did)
over_step to_engine.End d e (Err why) is = absurd is

same_cause : (x y : Cause) → ◌≡◌ {A = Result EngineAnswer EngineRefusal} (Err (engine.Because x)) (Err (engine.Because y)) → x ≡ y
same_cause x y is = cc

-- that a session stands is no fault
stands : (b : Bool) (number : ℕ) → unwrap_or (whether b cause.NoSuchTable) (cause.CloneRunning number) ≡ cause.DiskFault → ⊥
stands true number is = cc
stands false number is = cc

over_drop : (o : Option Session) (table : ℕ) (d t : Donor) (result : Result EngineAnswer EngineRefusal) → Drops o table d t result → Over (EngineFails result) d.engine t.engine
over_drop None table d t result is = over_step (to_engine.Drop table) d t.engine result is.steps
over_drop (Some s) table d t result (why, same) =
    over_same (EngineFails result) d.engine t.engine (ap (λ (x : Donor). x.engine) same)
    (λ fault. stands (not (finite.contains_key d.engine.donor.tables table)) s.number (same_cause (unwrap_or (no_table d.engine.donor table) (cause.CloneRunning s.number)) cause.DiskFault (sym why ∙ fault)))

over_call : (c : EngineCall) (d t : Donor) (result : Result EngineAnswer EngineRefusal) → AnswersCall c d t result → Over (EngineFails result) d.engine t.engine
over_call (to_engine.Drop table) d t result is = over_drop d.cloning.session table d t result is
over_call c d t result is = over_step c d t.engine result is.steps

-- ---- a call of a clone

module _ (d t : Donor) where
  -- one that leaves the disk
  rests : t.engine ≡ d.engine → Over ⊥ d.engine t.engine
  rests same = over_same ⊥ d.engine t.engine same (λ never. never)

  rests_all : t ≡ d → Over ⊥ d.engine t.engine
  rests_all same = rests (ap (λ (x : Donor). x.engine) same)

  settled : Settles d t → Over ⊥ d.engine t.engine
  settled is = counts_same ⊥ d.engine.disk.failures t.engine.disk.failures (ap (λ (e : Engine). e.disk.failures) is) (λ never. never)

  refused : {X : Type 0} (o : Option CloneCause) (why : CloneRefusal) (Did : X → Type 0) → CarriesOut {X = X} o (Err why) d t Did → Over ⊥ d.engine t.engine
  refused o (refusal.Because why) Did did = rests_all did.1
  refused o refusal.NoMemory Did did = rests did.1.1

  -- a block that was read, or wasn't
  visited : (Faulty : Type 0) → OnlyVisits d.engine t.engine → (Faulty → ⊥) → Over Faulty d.engine t.engine
  visited Faulty visits never = record { later = visits.later; fault = λ faulty. absurd (never faulty) }

  not_read : (caller : Caller) (stage chunk number : ℕ) (why : BlockRefusal) → RefusesBlock caller stage chunk number d t why → Over (DonorFails (given.ReadBlock (Err why))) d.engine t.engine
  not_read caller stage chunk number (unread.Clone (refusal.Because why)) did = over_same _ d.engine t.engine (ap (λ (x : Donor). x.engine) did.1) (λ is. cc)
  not_read caller stage chunk number (unread.Clone refusal.NoMemory) did = visited _ did.0 (λ is. cc)
  not_read caller stage chunk number (unread.Engine (engine.Because why)) did = record { later = did.2.later; fault = λ is. did.1 }
  not_read caller stage chunk number (unread.Engine engine.NoMemory) did = absurd did

  answered : (c : DonorCall) (a : DonorAnswer) → Answered c a d t → Over (DonorFails a) d.engine t.engine
  answered (asked.Engine c) (given.Engine result) did = over_call c d t result did
  answered (asked.Init hello) (given.Init (Ok info)) did = rests did.1.engine
  answered (asked.Init hello) (given.Init (Err why)) did = refused _ why _ did
  answered (asked.Attach caller) (given.Attach result) did = rests_all did.1
  answered (asked.Reinit caller stage finished) (given.Reinit (Ok info)) did = rests did.1.1
  answered (asked.Reinit caller stage finished) (given.Reinit (Err why)) did = refused _ why _ did
  answered (asked.ReinitBlocks caller stage has) (given.ReinitBlocks (Ok info)) did = rests did.1.1
  answered (asked.ReinitBlocks caller stage has) (given.ReinitBlocks (Err why)) did = refused _ why _ did
  answered (asked.Kept caller stage chunk) (given.Kept (Ok mask)) did = rests_all did.1.1
  answered (asked.Kept caller stage chunk) (given.Kept (Err why)) did = rests_all did.1
  answered (asked.Execute caller stage) (given.Execute (Ok done)) did = rests_all did.1
  answered (asked.Execute caller stage) (given.Execute (Err why)) did = rests_all did.1
  answered (asked.Claim caller stage) (given.Claim result) did = rests did.1
  answered (asked.ReadBlock caller stage chunk number) (given.ReadBlock (Ok (read, last))) did = visited _ did.1.visits (λ is. cc)
  answered (asked.ReadBlock caller stage chunk number) (given.ReadBlock (Err why)) did = not_read caller stage chunk number why did
  answered (asked.Ack caller stage floor) (given.Ack (Ok info)) did = settled did.1.settles
  answered (asked.Ack caller stage floor) (given.Ack (Err why)) did = refused _ why _ did
  answered (asked.Exit caller) (given.Exit (Ok gone)) did = settled did.1.1
  answered (asked.Exit caller) (given.Exit (Err why)) did = rests_all did.1
  answered (asked.Abandon session) (given.Abandon (Ok gone)) did = settled did.1.1
  answered (asked.Abandon session) (given.Abandon (Err why)) did = rests_all did.1
  answered (asked.Archive limit) (given.Archive (Ok reached)) did = settled did.1
  answered (asked.Archive limit) (given.Archive (Err e)) did = rests did.1
  answered c a did = absurd did

pub acts_later : (d t : Donor) (c : DonorCall) (a : DonorAnswer) → Acts (Calls c a) d t → d.engine.disk.failures ≤ t.engine.disk.failures
acts_later d t c a acts = (answered d t c a acts.does).later

-- ---- a call of a job

pub disk_counts : (s : SharedDonor) (c : JobCall) (a : JobAnswer) (t : SharedDonor) → Steps s c a t → Counts (DiskFails a) s.donor.engine.disk.failures t.donor.engine.disk.failures
disk_counts s call.Halt answer.Halt t is = rests s.donor t.donor (ap (λ (x : SharedDonor). x.donor.engine) is)
disk_counts s call.Halted (answer.Halted over) t is = rests s.donor t.donor (ap (λ (x : SharedDonor). x.donor.engine) is.1)
disk_counts s call.Look (answer.Look position) t is = rests s.donor t.donor (ap (λ (x : SharedDonor). x.donor.engine) is.1)
disk_counts s (call.Donor c) (answer.Donor a) t is = answered s.donor t.donor c a is.acts.does
disk_counts s c a t is = absurd is
