-- What a call of the recipient takes, puts out and leaves.
use Rattle.std.proofs.Common.{ℕ, ◌≡◌, ◌∙◌, ◌-◌, Bool, true, false, [], length, take, drop, inl, refl, ap}
use Rattle.std.specs.Prelude.{is_some}
use Rattle.clone_outside.specs.DiskCalls.{DiskState}
use Rattle.clone_wire.specs.declared.frame.Side.TheVariants.{Answer}
use Rattle.clone_fetch.specs.Fetching.{Requester, requester}
use Rattle.clone_fetching.specs.Recipients.{RecipientModel, RecipientSteps, Steps, rule_in}
use Rattle.clone_fetching.specs.declared.machine.RecipientAnswer.{RecipientAnswer}
use Rattle.clone_fetching.specs.declared.machine.RecipientAnswer.TheVariants as answer
use Rattle.clone_fetching.specs.declared.machine.RecipientCall.{RecipientCall}
use Rattle.clone_fetching.specs.declared.machine.RecipientCall.TheVariants as call
use Rattle.clone_fetching.specs.declared.recipient.TaskStep.{TaskStep}
use Rattle.clone_fetching.specs.declared.recipient.TaskStepped.{TaskStepped}
use Rattle.clone_copying.specs.Calls.{put_by, taken_by}
use Rattle.clone_taking.proofs.FloorStepLemmas.{KeepsFloor, step_keeps}
use Rattle.clone_taking.proofs.FrameLemmas.{IsOne}
use Rattle.clone_taking.proofs.PieceLemmas.{none_behind, none_in_front}
use Rattle.clone_taking.proofs.RuleLemmas.{complete_first, ended_rests}
use Rattle.clone_taking.proofs.StepLemmas.{Puts, nothing, step_puts, step_takes}

-- the task that makes the step
abbrev pub task_in : RecipientCall → ℕ
task_in (call.Step c) = c.task
task_in call.Ended = 0

module _ {R : Type 0} (state : R → DiskState) where
  abbrev Model : Type 0
  Model = RecipientModel R

  -- as a step of the task sees it
  abbrev before : Model → TaskStep → Requester
  before s c = requester s.reception (state s.disk) c.received.items c.sent.items

  abbrev after : Model → TaskStepped → Requester
  after t a = requester t.reception (state t.disk) a.received.items a.sent.items

  -- ---- what it takes

  given_takes : (given_up : Bool) (s : Model) (c : TaskStep) (a : TaskStepped) (t : Model) → s.given_up ≡ given_up → Steps state s c a t
      → IsOne Answer (take (length c.received.items - length a.received.items) c.received.items)
  given_takes false s c a t is steps = let f = steps.0 is in step_takes (rule_in s c) c.link c.task c.floor (before s c) (after t a) a.answer f.steps
  given_takes true s c a t is steps = let g = steps.1 is in inl (none_in_front a.received.items c.received.items g.received)

  pub call_takes : (s : Model) (c : RecipientCall) (a : RecipientAnswer) (t : Model) → RecipientSteps state s c a t → IsOne Answer (taken_by c a)
  call_takes s (call.Step c) (answer.Stepped a) t steps = given_takes s.given_up s c a t refl steps
  call_takes s (call.Step c) (answer.Ended how) t steps = absurd steps
  call_takes s call.Ended (answer.Stepped a) t steps = absurd steps
  call_takes s call.Ended (answer.Ended how) t steps = inl refl

  -- ---- what it puts out

  given_puts : (given_up : Bool) (s : Model) (c : TaskStep) (a : TaskStepped) (t : Model) → s.given_up ≡ given_up → Steps state s c a t
      → Puts c.task s.reception.table t.reception.table (drop (length c.sent.items) a.sent.items)
  given_puts false s c a t is steps =
      let f = steps.0 is in step_puts (rule_in s c) c.link c.task c.floor (before s c) (after t a) a.answer (complete_first c.core s.reception.table c.task c.link) f.steps
  given_puts true s c a t is steps = let g = steps.1 is in nothing (none_behind c.sent.items a.sent.items g.sent)

  pub call_puts : (s : Model) (c : RecipientCall) (a : RecipientAnswer) (t : Model) → RecipientSteps state s c a t → Puts (task_in c) s.reception.table t.reception.table (put_by c a)
  call_puts s (call.Step c) (answer.Stepped a) t steps = given_puts s.given_up s c a t refl steps
  call_puts s (call.Step c) (answer.Ended how) t steps = absurd steps
  call_puts s call.Ended (answer.Stepped a) t steps = absurd steps
  call_puts s call.Ended (answer.Ended how) t steps = nothing refl

  -- ---- what it leaves

  -- the table, and nothing is put out
  abbrev Rests : Model → RecipientCall → RecipientAnswer → Model → Type 0
  Rests s c a t = (t.reception.table ≡ s.reception.table) × (put_by c a ≡ [])

  given_rests : (given_up : Bool) (s : Model) (c : TaskStep) (a : TaskStepped) (t : Model) → s.given_up ≡ given_up → is_some s.reception.table.ended ≡ true → Steps state s c a t
      → Rests s (call.Step c) (answer.Stepped a) t
  given_rests false s c a t is ended steps =
      let f = steps.0 is in
      let same = ended_rests c.core s.reception.table c.task c.floor c.link (before s c) (after t a) a.answer ended f.steps in
      (ap (λ (r : Requester). r.reception.table) same, none_behind c.sent.items a.sent.items (ap (λ (r : Requester). r.sent) same))
  given_rests true s c a t is ended steps =
      let g = steps.1 is in (ap (λ (m : Model). m.reception.table) g.same, none_behind c.sent.items a.sent.items g.sent)

  -- once the clone has ended
  pub call_rests : (s : Model) (c : RecipientCall) (a : RecipientAnswer) (t : Model) → is_some s.reception.table.ended ≡ true → RecipientSteps state s c a t → Rests s c a t
  call_rests s (call.Step c) (answer.Stepped a) t ended steps = given_rests s.given_up s c a t refl ended steps
  call_rests s (call.Step c) (answer.Ended how) t ended steps = absurd steps
  call_rests s call.Ended (answer.Stepped a) t ended steps = absurd steps
  call_rests s call.Ended (answer.Ended how) t ended steps = (ap (λ (m : Model). m.reception.table) steps.0, refl)

  given_keeps : (given_up : Bool) (s : Model) (c : TaskStep) (a : TaskStepped) (t : Model) → s.given_up ≡ given_up → Steps state s c a t → KeepsFloor s.reception.table t.reception.table
  given_keeps false s c a t is steps kept has = let f = steps.0 is in step_keeps (rule_in s c) c.link c.task c.floor (before s c) (after t a) a.answer f.steps kept has
  given_keeps true s c a t is steps kept has = let g = steps.1 is in ap (λ (m : Model). m.reception.table.floor) g.same ∙ has

  -- the floor, if it was kept
  pub call_keeps : (s : Model) (c : RecipientCall) (a : RecipientAnswer) (t : Model) → RecipientSteps state s c a t → KeepsFloor s.reception.table t.reception.table
  call_keeps s (call.Step c) (answer.Stepped a) t steps kept has = given_keeps s.given_up s c a t refl steps kept has
  call_keeps s (call.Step c) (answer.Ended how) t steps kept has = absurd steps
  call_keeps s call.Ended (answer.Stepped a) t steps kept has = absurd steps
  call_keeps s call.Ended (answer.Ended how) t steps kept has = ap (λ (m : Model). m.reception.table.floor) steps.0 ∙ has
