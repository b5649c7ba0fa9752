-- What each call does to a donor, with its answer, and what a clone has taken then.
use Rattle.std.specs.Prelude.{◌≡◌, [], None, Some, Result, Ok, Err, IfOk, MatchResult, slice_index}
use Rattle.std.specs.declared.option.Option.{Option}
use Rattle.clone_chunk.specs.declared.cause.CloneCause.{CloneCause}
use Rattle.clone_session.specs.declared.refusal.CloneRefusal.{CloneRefusal}
use Rattle.clone_session.specs.declared.refusal.CloneRefusal.TheVariants.{Because, NoMemory}
use Rattle.clone_session.specs.CloneCalls.{Archives, Claims, OnSession, Reinits}
use Rattle.clone_session.specs.CloneCauses.{abandon_cause, acknowledgement_cause, attach_cause}
use Rattle.clone_session.specs.CloneCauses.{block_cause, claim_cause, exit_cause, hello_cause}
use Rattle.clone_session.specs.CloneCauses.{kept_cause, reinit_blocks_cause, reinit_cause}
use Rattle.clone_session.specs.Effects.{Becomes, Tells, left}
use Rattle.clone_calls.specs.declared.answer.DonorAnswer.{DonorAnswer}
use Rattle.clone_calls.specs.declared.answer.DonorAnswer.TheVariants as answer
use Rattle.clone_calls.specs.declared.call.DonorCall.{DonorCall}
use Rattle.clone_calls.specs.declared.call.DonorCall.TheVariants as call
use Rattle.clone_engine.specs.Copying.{Acks, Begins, Gives, RefusesBlock, Settles, moment_of}
use Rattle.clone_engine.specs.Copying.{taken_after, taken_at, taken_from}
use Rattle.clone_engine.specs.Donor.{Donor}
use Rattle.clone_engine.specs.Serving.{AnswersCall, taken_by}
use Rattle.clone_engine.specs.Taken.{Taken, nothing}

-- nothing has changed but the room that is kept for the clone
abbrev pub StaysAside : Donor → Donor → Type 0
StaysAside d t = Becomes t.cloning d.cloning × (t.engine ≡ d.engine)

-- A call of a clone is carried out only where no cause is against it. Else it is refused for the
-- first one, and nothing has changed. That memory runs out is free.
abbrev pub CarriesOut : {X : Type 0} → Option CloneCause → Result X CloneRefusal → Donor → Donor
    → (X → Type 0) → Type 0
CarriesOut cause (Ok x) d t Does = (cause ≡ None) × Does x
CarriesOut cause (Err (Because why)) d t Does = (cause ≡ Some why) × (t ≡ d)
CarriesOut cause (Err NoMemory) d t Does = (cause ≡ None) × StaysAside d t

-- one that takes no memory is carried out exactly where no cause is against it
abbrev pub CarriesOutFreely : {X : Type 0} → Option CloneCause → Result X CloneCause → Donor
    → Donor → (X → Type 0) → Type 0
CarriesOutFreely cause result d t Does =
    MatchResult result (λ x. (cause ≡ None) × Does x) (λ why. (cause ≡ Some why) × (t ≡ d))

-- the session is gone, and the log is let go that was kept for it
abbrev pub Leaves : Donor → Donor → Type 0
Leaves d t = Becomes t.cloning (left d.cloning) × Settles d t

-- WHAT A CALL DOES, with its answer
abbrev pub Answered : DonorCall → DonorAnswer → Donor → Donor → Type 0
Answered (call.Engine asked) (answer.Engine given) d t = AnswersCall asked d t given
Answered (call.Init hello) (answer.Init result) d t =
    CarriesOut (hello_cause d.cloning hello) result d t (Begins hello d t)
Answered (call.Attach caller) (answer.Attach result) d t =
    CarriesOut (attach_cause d.cloning caller) result d t (Tells d.cloning) × (t ≡ d)
Answered (call.Reinit caller stage finished) (answer.Reinit result) d t =
    CarriesOut (reinit_cause d.cloning caller stage) result d t
    (λ info. Reinits caller stage finished.bytes [] d.cloning t.cloning info
    × (t.engine ≡ d.engine))
Answered (call.ReinitBlocks caller stage taken) (answer.ReinitBlocks result) d t =
    CarriesOut (reinit_blocks_cause d.cloning caller stage) result d t
    (λ info. Reinits caller stage taken.finished.bytes taken.partials d.cloning t.cloning info
    × (t.engine ≡ d.engine))
Answered (call.Kept caller stage chunk) (answer.Kept result) d t =
    CarriesOutFreely (kept_cause d.cloning caller stage chunk) result d t
    (λ mask. OnSession d.cloning caller.session (λ s. mask ≡ slice_index s.snap.kept chunk)
    × (t ≡ d))
Answered (call.Execute caller stage) (answer.Execute result) d t =
    CarriesOutFreely (claim_cause d.cloning caller stage) result d t (λ _. t ≡ d)
Answered (call.Claim caller stage) (answer.Claim result) d t =
    Claims caller stage d.cloning t.cloning result × (t.engine ≡ d.engine)
Answered (call.ReadBlock caller stage chunk number) (answer.ReadBlock result) d t =
    MatchResult result (λ given. (block_cause d.cloning caller stage chunk number ≡ None)
    × Gives caller chunk number d t given.0 given.1)
    (RefusesBlock caller stage chunk number d t)
Answered (call.Ack caller stage floor) (answer.Ack result) d t =
    CarriesOut (acknowledgement_cause d.cloning caller stage floor (moment_of d.engine).position)
    result d t (Acks caller stage d t)
Answered (call.Exit caller) (answer.Exit result) d t =
    CarriesOutFreely (exit_cause d.cloning caller) result d t (λ _. Leaves d t)
Answered (call.Abandon session) (answer.Abandon result) d t =
    CarriesOutFreely (abandon_cause d.cloning session) result d t (λ _. Leaves d t)
Answered (call.Archive limit) (answer.Archive result) d t =
    MatchResult result (λ reached.
    Archives {E = Unit {0}} limit d.engine.buffer.ring d.cloning t.cloning (Ok reached)
    × Settles d t) (λ _. StaysAside d t)
Answered asked given d t = ⊥

-- what is taken then
abbrev pub taken_on : DonorCall → DonorAnswer → Donor → Donor → Taken → Taken
taken_on (call.Engine asked) (answer.Engine given) d t taken = taken_by asked given taken
taken_on (call.Init hello) (answer.Init (Ok info)) d t taken =
    taken_at d t d.cloning.session taken
taken_on (call.ReadBlock caller stage chunk number) (answer.ReadBlock (Ok given)) d t taken =
    taken_from given.0 taken
taken_on (call.Ack caller stage floor) (answer.Ack (Ok info)) d t taken =
    taken_after d stage taken
taken_on (call.Exit caller) (answer.Exit (Ok gone)) d t taken = nothing
taken_on (call.Abandon session) (answer.Abandon (Ok gone)) d t taken = nothing
taken_on asked given d t taken = taken
