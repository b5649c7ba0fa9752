use Rattle.std.proofs.Common.{refl, ap, ℕ}
use Rattle.clone_tasks.specs.declared.end.CloneEnd.TheVariants as end
use Rattle.clone_fetch.specs.Fetching.{completes, not_completed, not_left, not_marked}
use Rattle.clone_fetch.specs.declared.answer.TaskAnswer.TheVariants.{Ended}
use Rattle.clone_fetch.proofs.StepLemmas.{ended_so}
use Rattle.clone_fetch.proofs.completing.complete.Goals as goal

pub returns-in-Ok-put_frame-clause-completes : goal.returns-in-Ok-put_frame-clause-completes
returns-in-Ok-put_frame-clause-completes g c =
    let mark = c.in-Ok.ensures.mark in
    completes mark.0 mark.1 mark.2
    (ended_so _ _ _ c.complete.new.self c.end.new.self (ap (λ (n : ℕ × ℕ). end.Complete n.0 n.1) c.in-Ok.ensures.numbers) c.in-Ok.ensures.synced c.end.ensures)
    c.in-Ok-put_frame.ensures.ok
    (ap (λ (n : ℕ × ℕ). Ended (end.Complete n.0 n.1)) c.in-Ok.ensures.numbers)

pub returns-in-Err-clause-completes : goal.returns-in-Err-clause-completes
returns-in-Err-clause-completes g c =
    let mark = c.in-Ok.ensures.mark in
    not_left mark.0 mark.1 mark.2 c.in-Ok.ensures.synced c.in-Err.ensures.err refl

pub returns-in-Err-Fault-clause-completes : goal.returns-in-Err-Fault-clause-completes
returns-in-Err-Fault-clause-completes g c =
    let partial = c.in-Err-Fault.ensures.partial in
    not_completed partial.0 partial.1 partial.2 (ended_so end.DiskFault _ _ c.complete.new.self c.end-in-Err-Fault.new.self refl c.in-Err-Fault.ensures.kept c.end-in-Err-Fault.ensures) refl refl

pub returns-in-Err-NoMemory-clause-completes : goal.returns-in-Err-NoMemory-clause-completes
returns-in-Err-NoMemory-clause-completes g c =
    let partial = c.in-Err-NoMemory.ensures.partial in
    not_marked partial.0 partial.1 partial.2 c.in-Err-NoMemory.ensures.kept refl refl
