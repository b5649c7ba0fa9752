-- The calls of a legal run: each leads the donor's transactions and commits, or leaves them.
use Rattle.std.proofs.Common.{◌≡◌, ℕ, List, [], ◌∷◌, Option, None, Some, Result, Ok, Err, IfOk, refl, sym, ap, subst, inl, inr}
use Rattle.clone_turn.specs.Runs.{IsLegalRun, end_of}
use Rattle.clone_chunk.specs.declared.cause.CloneCause.{CloneCause}
use Rattle.clone_flush.specs.declared.refusal.FlushRefusal.{FlushRefusal}
use Rattle.clone_plain.specs.Calls.{Does, cause_of}
use Rattle.clone_plain.specs.Causes.{drop_cause}
use Rattle.clone_plain.specs.Donor as plain
use Rattle.clone_plain.specs.declared.call.EngineAnswer.{EngineAnswer}
use Rattle.clone_plain.specs.declared.call.EngineAnswer.TheVariants as answers
use Rattle.clone_plain.specs.declared.call.EngineCall.{EngineCall}
use Rattle.clone_plain.specs.declared.call.EngineCall.TheVariants as call
use Rattle.clone_plain.specs.declared.refusal.Cause.{Cause}
use Rattle.clone_plain.specs.declared.refusal.EngineRefusal.{EngineRefusal}
use Rattle.clone_plain.specs.declared.refusal.EngineRefusal.TheVariants as engine
use Rattle.clone_trx.specs.Ways.{Answers, CarriesDrop, Way}
use Rattle.clone_session.specs.Cloning.{Session}
use Rattle.clone_session.specs.declared.caller.Caller.{Caller}
use Rattle.clone_session.specs.declared.refusal.CloneRefusal.{CloneRefusal}
use Rattle.clone_session.specs.declared.refusal.CloneRefusal.TheVariants as clone
use Rattle.clone_calls.specs.declared.answer.DonorAnswer.{DonorAnswer}
use Rattle.clone_calls.specs.declared.answer.DonorAnswer.TheVariants as given
use Rattle.clone_calls.specs.declared.block.BlockRefusal.{BlockRefusal}
use Rattle.clone_calls.specs.declared.block.BlockRefusal.TheVariants as unread
use Rattle.clone_calls.specs.declared.call.DonorCall.{DonorCall}
use Rattle.clone_calls.specs.declared.call.DonorCall.TheVariants as asked
use Rattle.clone_engine.specs.Answering.{Answered, CarriesOut, CarriesOutFreely}
use Rattle.clone_engine.specs.Copying.{RefusesBlock}
use Rattle.clone_engine.specs.Donor.{Donor, IsDonor}
use Rattle.clone_engine.specs.Engine.{Engine}
use Rattle.clone_engine.specs.Reading.{OnlyVisits}
use Rattle.clone_engine.specs.Serving.{AnswersCall, Drops as DropsOn, ServesAs}
use Rattle.clone_engine.specs.Steps.{AnswersDrop, AnswersFlush, Did, Goes, Transacts, way_of}
use Rattle.clone_engine.specs.Steps as steps
use Rattle.clone_writer.specs.Writing.{Leads}
use Rattle.clone_machine.specs.Running.{JobEntry}
use Rattle.clone_machine.specs.Sharing.{SharedDonor, Steps}
use Rattle.clone_machine.specs.declared.calls.JobAnswer.{JobAnswer}
use Rattle.clone_machine.specs.declared.calls.JobAnswer.TheVariants as job_answer
use Rattle.clone_machine.specs.declared.calls.JobCall.{JobCall}
use Rattle.clone_machine.specs.declared.calls.JobCall.TheVariants as job
use Rattle.clone_jobs.specs.Said.{Said}
use Rattle.clone_jobs.specs.Written.{AllMove, Moves, engine_of, plain as plain_of}

-- the transactions and the commits stay
abbrev pub Stays : plain.Donor → plain.Donor → Type 0
Stays d t = (t.active ≡ d.active) × (t.binlog ≡ d.binlog)

stays_as : (d like t : plain.Donor) → like.active ≡ d.active → like.binlog ≡ d.binlog → t ≡ like → Stays d t
stays_as d like t active binlog is = subst (Stays d) (sym is) (active, binlog)

pub stays_same : (d t : plain.Donor) → t ≡ d → Stays d t
stays_same d t is = stays_as d d t refl refl is

-- ---- a call of the engine

transacts_lead : (c : EngineCall) (s t : Engine) (answer : Result EngineAnswer EngineRefusal) → Transacts c s t answer → Leads s.donor c answer t.donor
transacts_lead c s t answer transacts = by answer transacts.goes
  where
    way : (o : Option Cause) (w : Way) (answer : Result EngineAnswer EngineRefusal) → Answers o w s.donor t.donor s.buffer t.buffer answer (Did c s t) → Leads s.donor c answer t.donor
    way (Some cause) w (Ok did) (is, same, rest) = absurd cc
    way (Some cause) w (Err refusal) (is, same, rest) = stays_same s.donor t.donor same
    way None w (Ok did) (goes, done) = done.does
    way None w (Err refusal) (goes, same) = stays_same s.donor t.donor same

    by : (answer : Result EngineAnswer EngineRefusal) → Goes c s t answer → Leads s.donor c answer t.donor
    by (Ok did) goes = way (cause_of s.donor c) (way_of s.donor c) (Ok did) goes
    by (Err (engine.Because cause)) goes = way (cause_of s.donor c) (way_of s.donor c) (Err (engine.Because cause)) goes
    by (Err engine.NoMemory) (inl same) = stays_same s.donor t.donor (ap (λ (e : Engine). e.donor) same)
    by (Err engine.NoMemory) (inr goes) = way (cause_of s.donor c) (way_of s.donor c) (Err engine.NoMemory) goes

drops_lead : (table : ℕ) (s t : Engine) (answer : Result EngineAnswer EngineRefusal) → steps.Drops table s t answer → Leads s.donor (call.Drop table) answer t.donor
drops_lead table s t answer drops = by (drop_cause s.donor table) answer drops.answers
  where
    gone : (answer : Result EngineAnswer EngineRefusal) → CarriesDrop table s.donor t.donor s.buffer t.buffer answer → IfOk answer (λ did. did ≡ answers.Drop) → Leads s.donor (call.Drop table) answer t.donor
    gone (Ok did) is same = subst (λ (a : EngineAnswer). Does s.donor (call.Drop table) a t.donor) (sym same) is
    gone (Err refusal) (inl (log, same)) none = stays_same s.donor t.donor same
    gone (Err refusal) (inr (fault, log, is)) none = stays_as s.donor _ t.donor refl refl is

    by : (o : Option Cause) (answer : Result EngineAnswer EngineRefusal) → AnswersDrop o table s t answer → Leads s.donor (call.Drop table) answer t.donor
    by (Some why) (Ok did) (is, same) = absurd cc
    by (Some why) (Err refusal) (is, same) = stays_same s.donor t.donor (ap (λ (e : Engine). e.donor) same)
    by None (Ok did) (inl (flies, is, same)) = absurd cc
    by None (Err refusal) (inl (flies, is, same)) = stays_same s.donor t.donor (ap (λ (e : Engine). e.donor) same)
    by None answer (inr goes) = gone answer goes.donor goes.did

flushes_lead : (c : EngineCall) (did : EngineAnswer) (s t : Engine) (answer : Result EngineAnswer EngineRefusal) (Flies : Result (Unit {0}) FlushRefusal → Type 0) → (t.donor ≡ s.donor → Does s.donor c did t.donor) → steps.Flushes did s t answer Flies
    → Leads s.donor c answer t.donor
flushes_lead c did s t answer Flies to flushes = by answer flushes.does
  where
    by : (answer : Result EngineAnswer EngineRefusal) → AnswersFlush did Flies answer → Leads s.donor c answer t.donor
    by (Ok x) (is, flies) = subst (λ (a : EngineAnswer). Does s.donor c a t.donor) (sym is) (to flushes.donor)
    by (Err e) (refusal, is, flies) = stays_same s.donor t.donor flushes.donor

steps_lead : (c : EngineCall) (d : Donor) (e : Engine) (answer : Result EngineAnswer EngineRefusal) → ServesAs c d e answer → Leads d.engine.donor c answer e.donor
steps_lead (call.Create table buckets) d e answer is = transacts_lead (call.Create table buckets) d.engine e answer is
steps_lead (call.Drop table) d e answer is = drops_lead table d.engine e answer is
steps_lead (call.Begin writer index) d e answer is = transacts_lead (call.Begin writer index) d.engine e answer is
steps_lead (call.Put trx table key value) d e answer is = transacts_lead (call.Put trx table key value) d.engine e answer is
steps_lead (call.Delete trx table key) d e answer is = transacts_lead (call.Delete trx table key) d.engine e answer is
steps_lead (call.Get trx table key) d e answer is = transacts_lead (call.Get trx table key) d.engine e answer is
steps_lead (call.UndoOne trx) d e answer is = transacts_lead (call.UndoOne trx) d.engine e answer is
steps_lead (call.Commit trx) d e answer is = transacts_lead (call.Commit trx) d.engine e answer is
steps_lead (call.FlushBegin space page) d e answer is = flushes_lead (call.FlushBegin space page) answers.FlushBegin d.engine e answer _ (λ same. same) is
steps_lead (call.FlushHalf space page) d e answer is = flushes_lead (call.FlushHalf space page) answers.FlushHalf d.engine e answer _ (λ same. same) is
steps_lead (call.FlushLand space page) d e answer is = flushes_lead (call.FlushLand space page) answers.FlushLand d.engine e answer _ (λ same. same) is
steps_lead call.OldestDirty d e (Ok (answers.OldestDirty page)) is = ap (λ (x : Engine). x.donor) is.1
steps_lead call.OldestDirty d e (Ok did) is = absurd is
steps_lead call.OldestDirty d e (Err refusal) is = absurd is
steps_lead call.Checkpoint d e (Ok (answers.Checkpoint lsn)) is = is.donor
steps_lead call.Checkpoint d e answer is = absurd is
steps_lead call.End d e (Ok (answers.End lsn)) is = ap (λ (x : Engine). x.donor) is.1
steps_lead call.End d e (Ok did) is = absurd is
steps_lead call.End d e (Err refusal) is = absurd is

pub call_leads : (c : EngineCall) (d t : Donor) (answer : Result EngineAnswer EngineRefusal) → AnswersCall c d t answer → Leads d.engine.donor c answer t.engine.donor
call_leads (call.Drop table) d t answer did = by d.cloning.session answer did
  where
    by : (o : Option Session) (answer : Result EngineAnswer EngineRefusal) → DropsOn o table d t answer → Leads d.engine.donor (call.Drop table) answer t.engine.donor
    by None answer serves = steps_lead (call.Drop table) d t.engine answer serves.steps
    by (Some s) (Ok x) (is, same) = absurd cc
    by (Some s) (Err refusal) (is, same) = stays_same d.engine.donor t.engine.donor (ap (λ (x : Donor). x.engine.donor) same)
call_leads c d t answer did = steps_lead c d t.engine answer did.steps

-- ---- a call of a clone leaves the plain donor

module _ (d t : Donor) where
  abbrev Leaves : Type 0
  Leaves = t.engine.donor ≡ d.engine.donor

  by_donor : t ≡ d → Leaves
  by_donor same = ap (λ (x : Donor). x.engine.donor) same

  by_engine : t.engine ≡ d.engine → Leaves
  by_engine same = ap (λ (e : Engine). e.donor) same

  carried : {X : Type 0} (cause : Option CloneCause) (result : Result X CloneRefusal) (D : X → Type 0) → ((x : X) → D x → Leaves) → CarriesOut cause result d t D → Leaves
  carried cause (Ok x) D to (none, does) = to x does
  carried cause (Err (clone.Because why)) D to (is, same) = by_donor same
  carried cause (Err clone.NoMemory) D to (none, aside) = by_engine aside.1

  freely : {X : Type 0} (cause : Option CloneCause) (result : Result X CloneCause) (D : X → Type 0) → ((x : X) → D x → Leaves) → CarriesOutFreely cause result d t D → Leaves
  freely cause (Ok x) D to (none, does) = to x does
  freely cause (Err why) D to (is, same) = by_donor same

  visited : OnlyVisits d.engine t.engine → Leaves
  visited visits = ap (λ (e : Engine). e.donor) visits.same

  refused_block : (caller : Caller) (stage chunk number : ℕ) (why : BlockRefusal) → RefusesBlock caller stage chunk number d t why → Leaves
  refused_block caller stage chunk number (unread.Clone (clone.Because cause)) is = by_donor is.1
  refused_block caller stage chunk number (unread.Clone clone.NoMemory) is = visited is.0
  refused_block caller stage chunk number (unread.Engine (engine.Because cause)) is = visited is.2
  refused_block caller stage chunk number (unread.Engine engine.NoMemory) is = absurd is

  moves_none : (x : Said) → engine_of x.call ≡ None → Leaves → Moves x d.engine.donor t.engine.donor
  moves_none x none same = inr (none, ap (λ (y : plain.Donor). y.active) same, ap (λ (y : plain.Donor). y.binlog) same)

  donor_moves : (c : DonorCall) (a : DonorAnswer) → Answered c a d t → Moves (record { call = job.Donor c; answer = job_answer.Donor a }) d.engine.donor t.engine.donor
  donor_moves (asked.Engine c) (given.Engine answer) does = inl (c, answer, refl, call_leads c d t answer does)
  donor_moves (asked.Init hello) (given.Init result) does = moves_none _ refl (carried _ result _ (λ info begins. by_engine begins.engine) does)
  donor_moves (asked.Attach caller) (given.Attach result) does = moves_none _ refl (by_donor does.1)
  donor_moves (asked.Reinit caller stage finished) (given.Reinit result) does = moves_none _ refl (carried _ result _ (λ info did. by_engine did.1) does)
  donor_moves (asked.ReinitBlocks caller stage has) (given.ReinitBlocks result) does = moves_none _ refl (carried _ result _ (λ info did. by_engine did.1) does)
  donor_moves (asked.Kept caller stage chunk) (given.Kept result) does = moves_none _ refl (freely _ result _ (λ mask did. by_donor did.1) does)
  donor_moves (asked.Execute caller stage) (given.Execute result) does = moves_none _ refl (freely _ result _ (λ done same. by_donor same) does)
  donor_moves (asked.Claim caller stage) (given.Claim result) does = moves_none _ refl (by_engine does.1)
  donor_moves (asked.ReadBlock caller stage chunk number) (given.ReadBlock (Ok read)) does = moves_none _ refl (visited does.1.visits)
  donor_moves (asked.ReadBlock caller stage chunk number) (given.ReadBlock (Err why)) does = moves_none _ refl (refused_block caller stage chunk number why does)
  donor_moves (asked.Ack caller stage floor) (given.Ack result) does = moves_none _ refl (carried _ result _ (λ info acks. ap (λ (e : Engine). e.donor) acks.settles) does)
  donor_moves (asked.Exit caller) (given.Exit result) does = moves_none _ refl (freely _ result _ (λ gone leaves. ap (λ (e : Engine). e.donor) leaves.1) does)
  donor_moves (asked.Abandon session) (given.Abandon result) does = moves_none _ refl (freely _ result _ (λ gone leaves. ap (λ (e : Engine). e.donor) leaves.1) does)
  donor_moves (asked.Archive limit) (given.Archive (Ok reached)) does = moves_none _ refl (ap (λ (e : Engine). e.donor) does.1)
  donor_moves (asked.Archive limit) (given.Archive (Err e)) does = moves_none _ refl (by_engine does.1)
  donor_moves c a does = absurd does

-- ---- a legal run

step_moves : (s : SharedDonor) (c : JobCall) (a : JobAnswer) (t : SharedDonor) → Steps s c a t → Moves (record { call = c; answer = a }) (plain_of s) (plain_of t)
step_moves s job.Halt job_answer.Halt t is = moves_none s.donor t.donor _ refl (ap (λ (x : SharedDonor). plain_of x) is)
step_moves s job.Halted (job_answer.Halted halted) t is = moves_none s.donor t.donor _ refl (ap (λ (x : SharedDonor). plain_of x) is.1)
step_moves s job.Look (job_answer.Look position) t is = moves_none s.donor t.donor _ refl (ap (λ (x : SharedDonor). plain_of x) is.1)
step_moves s (job.Donor c) (job_answer.Donor a) t is = donor_moves s.donor t.donor c a is.acts.does
step_moves s c a t is = absurd is

pub moves : (s : SharedDonor) (run : List JobEntry) → IsLegalRun Steps s run → AllMove s run
moves s [] legal = tt
moves s (e ∷ run) legal = (step_moves s e.call e.answer e.after legal.0, moves e.after run legal.1)

step_donor : (s : SharedDonor) (c : JobCall) (a : JobAnswer) (t : SharedDonor) → Steps s c a t → IsDonor s.donor → IsDonor t.donor
step_donor s job.Halt job_answer.Halt t is donor = subst (λ (x : SharedDonor). IsDonor x.donor) (sym is) donor
step_donor s job.Halted (job_answer.Halted halted) t is donor = subst (λ (x : SharedDonor). IsDonor x.donor) (sym is.1) donor
step_donor s job.Look (job_answer.Look position) t is donor = subst (λ (x : SharedDonor). IsDonor x.donor) (sym is.1) donor
step_donor s (job.Donor c) (job_answer.Donor a) t is donor = is.acts.donor
step_donor s c a t is donor = absurd is

pub donor_after : (s : SharedDonor) (run : List JobEntry) → IsDonor s.donor → IsLegalRun Steps s run → IsDonor (end_of s run).donor
donor_after s [] donor legal = donor
donor_after s (e ∷ run) donor legal = donor_after e.after run (step_donor s e.call e.answer e.after legal.0 donor) legal.1
