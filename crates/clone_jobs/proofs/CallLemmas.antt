-- What a seat at a shared donor asked and was answered, call by call.
use Rattle.std.proofs.Common.{◌≡◌, ◌∙◌, List, [], ◌∷◌, ◌++◌, Bool, true, false, refl, sym, ap, subst, None, Some, Result, ℕ, IsSome}
use Rattle.std.specs.declared.alloc.AllocError.{AllocError}
use Rattle.std.specs.declared.option.Option.{Option}
use Rattle.std.proofs.lemmas.Option.{same_Some}
use Rattle.clone_turn.specs.Seats.{CellModel, IsOf, MakesCall}
use Rattle.clone_turn.specs.Worked.{Makes, Worked}
use Rattle.clone_turn.proofs.WorkedLemmas.{IsStep, makes_none, makes_one, worked_more, worked_one}
use Rattle.clone_calls.specs.Answering.{answers}
use Rattle.clone_calls.specs.declared.answer.DonorAnswer.{DonorAnswer}
use Rattle.clone_calls.specs.declared.answer.DonorAnswer.TheVariants as given
use Rattle.clone_calls.specs.declared.call.DonorCall.{DonorCall}
use Rattle.clone_calls.specs.declared.call.DonorCall.TheVariants as asked
use Rattle.clone_plain.specs.declared.call.EngineAnswer.{EngineAnswer}
use Rattle.clone_plain.specs.declared.call.EngineCall.{EngineCall}
use Rattle.clone_plain.specs.declared.refusal.EngineRefusal.{EngineRefusal}
use Rattle.clone_machine.specs.Running.{JobEntry}
use Rattle.clone_machine.specs.Sharing.{SharedDonor, Steps}
use Rattle.clone_machine.specs.declared.calls.JobAnswer.{JobAnswer}
use Rattle.clone_machine.specs.declared.calls.JobAnswer.TheVariants as answer
use Rattle.clone_machine.specs.declared.calls.JobCall.{JobCall}
use Rattle.clone_machine.specs.declared.calls.JobCall.TheVariants as call
use Rattle.clone_jobs.specs.Said.{IsAnswered, JobSeat, Said, Says, archived_in, archiving, asking, engine, engine_in, halted_in, halting, said_in}

-- one call is a step of the machine
pub said_one : (first : SharedDonor) (v w : JobSeat) (c : JobCall) (a : JobAnswer) → MakesCall Steps first v c a w → Says (record { call = c; answer = a } ∷ []) v w
said_one first v w c a made =
    worked_one Steps first (λ made. said_in made ≡ record { call = c; answer = a } ∷ []) v w c a made
    (λ e step i. record { call = step.1 i; answer = step.2 i } ∷ [])

pub answered_one : (first : SharedDonor) (v w : JobSeat) (c : JobCall) (a : JobAnswer) → MakesCall Steps first v c a w → IsAnswered c a
answered_one first v w c a made = let one = makes_one Steps first v w c a made in (one.2.0, one.0.after, one.2.3)

pub still_of : (cell : CellModel SharedDonor) (first : SharedDonor) (v w : JobSeat) (c : JobCall) (a : JobAnswer) → MakesCall Steps first v c a w → IsOf cell v → IsOf cell w
still_of cell first v w c a made of = subst (λ (x : JobSeat). IsOf cell x) (sym made.4) of

-- the answer is of the call's kind
pub halted_kind : (a : JobAnswer) → IsAnswered call.Halted a → IsSome (halted_in a)
halted_kind answer.Halt is = absurd is.2
halted_kind (answer.Halted over) is = refl
halted_kind (answer.Look n) is = absurd is.2
halted_kind (answer.Donor given) is = absurd is.2

pub halting_kind : (a : JobAnswer) → IsAnswered call.Halt a → a ≡ answer.Halt
halting_kind answer.Halt is = refl
halting_kind (answer.Halted over) is = absurd is.2
halting_kind (answer.Look n) is = absurd is.2
halting_kind (answer.Donor given) is = absurd is.2

engine_kind_at : (c : EngineCall) (g : DonorAnswer) → answers (asked.Engine c) g ≡ true → IsSome (engine_in (answer.Donor g))
engine_kind_at c (given.Engine result) is = refl
engine_kind_at c (given.Init told) is = absurd cc
engine_kind_at c (given.Attach told) is = absurd cc
engine_kind_at c (given.Reinit told) is = absurd cc
engine_kind_at c (given.ReinitBlocks told) is = absurd cc
engine_kind_at c (given.Kept mask) is = absurd cc
engine_kind_at c (given.Execute done) is = absurd cc
engine_kind_at c (given.Claim chunk) is = absurd cc
engine_kind_at c (given.ReadBlock read) is = absurd cc
engine_kind_at c (given.Ack told) is = absurd cc
engine_kind_at c (given.Exit done) is = absurd cc
engine_kind_at c (given.Abandon done) is = absurd cc
engine_kind_at c (given.Archive reached) is = absurd cc

pub engine_kind : (c : EngineCall) (a : JobAnswer) → IsAnswered (call.Donor (asked.Engine c)) a → IsSome (engine_in a)
engine_kind c answer.Halt is = absurd is.2
engine_kind c (answer.Halted over) is = absurd is.2
engine_kind c (answer.Look n) is = absurd is.2
engine_kind c (answer.Donor g) is = engine_kind_at c g is.2.answers.kind

archive_kind_at : (limit : ℕ) (g : DonorAnswer) → answers (asked.Archive limit) g ≡ true → IsSome (archived_in (answer.Donor g))
archive_kind_at limit (given.Engine result) is = absurd cc
archive_kind_at limit (given.Init told) is = absurd cc
archive_kind_at limit (given.Attach told) is = absurd cc
archive_kind_at limit (given.Reinit told) is = absurd cc
archive_kind_at limit (given.ReinitBlocks told) is = absurd cc
archive_kind_at limit (given.Kept mask) is = absurd cc
archive_kind_at limit (given.Execute done) is = absurd cc
archive_kind_at limit (given.Claim chunk) is = absurd cc
archive_kind_at limit (given.ReadBlock read) is = absurd cc
archive_kind_at limit (given.Ack told) is = absurd cc
archive_kind_at limit (given.Exit done) is = absurd cc
archive_kind_at limit (given.Abandon done) is = absurd cc
archive_kind_at limit (given.Archive reached) is = refl

pub archive_kind : (limit : ℕ) (a : JobAnswer) → IsAnswered (call.Donor (asked.Archive limit)) a → IsSome (archived_in a)
archive_kind limit answer.Halt is = absurd is.2
archive_kind limit (answer.Halted over) is = absurd is.2
archive_kind limit (answer.Look n) is = absurd is.2
archive_kind limit (answer.Donor g) is = archive_kind_at limit g is.2.answers.kind

-- what is in an answer tells it
pub halted_is : (a : JobAnswer) (over : Bool) → halted_in a ≡ Some over → a ≡ answer.Halted over
halted_is answer.Halt over is = absurd cc
halted_is (answer.Halted o) over is = ap answer.Halted (same_Some o over is)
halted_is (answer.Look n) over is = absurd cc
halted_is (answer.Donor given) over is = absurd cc

engine_is_at : (g : DonorAnswer) (result : Result EngineAnswer EngineRefusal) → engine_in (answer.Donor g) ≡ Some result → g ≡ given.Engine result
engine_is_at (given.Engine r) result is = ap given.Engine (same_Some r result is)
engine_is_at (given.Init told) result is = absurd cc
engine_is_at (given.Attach told) result is = absurd cc
engine_is_at (given.Reinit told) result is = absurd cc
engine_is_at (given.ReinitBlocks told) result is = absurd cc
engine_is_at (given.Kept mask) result is = absurd cc
engine_is_at (given.Execute done) result is = absurd cc
engine_is_at (given.Claim chunk) result is = absurd cc
engine_is_at (given.ReadBlock read) result is = absurd cc
engine_is_at (given.Ack told) result is = absurd cc
engine_is_at (given.Exit done) result is = absurd cc
engine_is_at (given.Abandon done) result is = absurd cc
engine_is_at (given.Archive reached) result is = absurd cc

pub engine_is : (a : JobAnswer) (result : Result EngineAnswer EngineRefusal) → engine_in a ≡ Some result → a ≡ answer.Donor (given.Engine result)
engine_is answer.Halt result is = absurd cc
engine_is (answer.Halted o) result is = absurd cc
engine_is (answer.Look n) result is = absurd cc
engine_is (answer.Donor g) result is = ap answer.Donor (engine_is_at g result is)

archived_is_at : (g : DonorAnswer) (result : Result (Option ℕ) AllocError) → archived_in (answer.Donor g) ≡ Some result → g ≡ given.Archive result
archived_is_at (given.Engine r) result is = absurd cc
archived_is_at (given.Init told) result is = absurd cc
archived_is_at (given.Attach told) result is = absurd cc
archived_is_at (given.Reinit told) result is = absurd cc
archived_is_at (given.ReinitBlocks told) result is = absurd cc
archived_is_at (given.Kept mask) result is = absurd cc
archived_is_at (given.Execute done) result is = absurd cc
archived_is_at (given.Claim chunk) result is = absurd cc
archived_is_at (given.ReadBlock read) result is = absurd cc
archived_is_at (given.Ack told) result is = absurd cc
archived_is_at (given.Exit done) result is = absurd cc
archived_is_at (given.Abandon done) result is = absurd cc
archived_is_at (given.Archive r) result is = ap given.Archive (same_Some r result is)

pub archived_is : (a : JobAnswer) (result : Result (Option ℕ) AllocError) → archived_in a ≡ Some result → a ≡ answer.Donor (given.Archive result)
archived_is answer.Halt result is = absurd cc
archived_is (answer.Halted o) result is = absurd cc
archived_is (answer.Look n) result is = absurd cc
archived_is (answer.Donor g) result is = ap answer.Donor (archived_is_at g result is)

-- with the answer as it is known
pub says_with : (c : JobCall) (a b : JobAnswer) (v w : JobSeat) → a ≡ b → Says (record { call = c; answer = a } ∷ []) v w → Says (record { call = c; answer = b } ∷ []) v w
says_with c a b v w is says = subst (λ (x : JobAnswer). Says (record { call = c; answer = x } ∷ []) v w) is says

-- the answer to the question whether the run is to end
pub asked_as : (over said : Bool) (v w : JobSeat) → over ≡ said → Says (asking over ∷ []) v w → Says (asking said ∷ []) v w
asked_as over said v w is says = subst (λ (b : Bool). Says (asking b ∷ []) v w) is says
