-- The calls of the recipient, by their answers.
use Rattle.clone_outside.specs.DiskCalls.{DiskState}
use Rattle.clone_turn.specs.Worked.{Worked}
use Rattle.clone_fetching.specs.Recipients.{RecipientSteps}
use Rattle.clone_fetching.specs.declared.machine.RecipientAnswer.TheVariants as answer
use Rattle.clone_fetching.specs.declared.machine.RecipientCall.TheVariants as call
use Rattle.clone_fetching.specs.declared.recipient.TaskStep.{TaskStep}
use Rattle.clone_fetching.specs.declared.recipient.TaskStepped.{TaskStepped}
use Rattle.clone_copying.specs.Calling.{Calls, IsAnswered}
use Rattle.clone_copying.specs.Calls.{IsStep, RecipientSeat}
use Rattle.clone_copying.proofs.CallLemmas.{is_step}
use Rattle.clone_copying.proofs.CallingLemmas.{worked_call, worked_map}

module _ {R : Type 0} (state : R → DiskState) (v w : RecipientSeat R) where
  pub stepped : (c : TaskStep) (a : TaskStepped) → Calls (RecipientSteps state) v (call.Step c) (answer.Stepped a) w → Worked (IsStep c a) v w
  stepped c a called =
      worked_map (IsAnswered (RecipientSteps state) (call.Step c) (answer.Stepped a)) (IsStep c a) v w
      (worked_call (RecipientSteps state) v w (call.Step c) (answer.Stepped a) called) (is_step state c a)

  pub never_told : (c : TaskStep) (how : _) → Calls (RecipientSteps state) v (call.Step c) (answer.Ended how) w → ⊥
  never_told c how called = (worked_call (RecipientSteps state) v w (call.Step c) (answer.Ended how) called).2.1.2

  pub never_stepped : (a : TaskStepped) → Calls (RecipientSteps state) v call.Ended (answer.Stepped a) w → ⊥
  never_stepped a called = (worked_call (RecipientSteps state) v w call.Ended (answer.Stepped a) called).2.1.2
