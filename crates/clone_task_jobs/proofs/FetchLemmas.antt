-- Whether a job that fetches lets the run end.
use Rattle.std.proofs.Common.{◌≡◌, Bool, true, false, refl, sym, subst}
use Rattle.clone_turn.specs.Worked.{Worked}
use Rattle.clone_turn.proofs.WorkedLemmas.{worked_none}
use Rattle.clone_copying.specs.Calling.{Calls, IsOne}
use Rattle.clone_copying.proofs.CallingLemmas.{worked_map, worked_one}
use Rattle.clone_machine.specs.Sharing.{Steps}
use Rattle.clone_machine.specs.declared.calls.JobAnswer.{JobAnswer}
use Rattle.clone_machine.specs.declared.calls.JobCall.TheVariants as call
use Rattle.clone_links.specs.Calling.{JobSeat}
use Rattle.clone_task_jobs.specs.Fetching.{HaltsUnless}

-- the run goes on, or is to end
pub halts_none : (b : Bool) (v : JobSeat) → b ≡ true → Worked (HaltsUnless b) v v
halts_none b v is = subst (λ x. Worked (HaltsUnless x) v v) (sym is) (worked_none (HaltsUnless true) v refl)

pub halts_one : (v w : JobSeat) (a : JobAnswer) → Calls Steps v call.Halt a w → Worked (HaltsUnless false) v w
halts_one v w a called = worked_map (IsOne call.Halt a) (HaltsUnless false) v w (worked_one Steps v w call.Halt a called) (λ made one. (a, one))
