-- The calls of a server at the desk.
use Rattle.std.proofs.Common.{ℕ, ◌≡◌, Option, None, Some, refl}
use Rattle.std.specs.Prelude.{IfSome, Result}
use Rattle.clone_outside.specs.declared.Refusal.{Refusal}
use Rattle.clone_outside.specs.declared.link.Side.TheVariants.{Donor}
use Rattle.clone_outside.specs.declared.link.Link.{Ghosts as Link}
use Rattle.clone_outside.specs.declared.link.Net.{Ghosts as Net}
use Rattle.clone_desk.specs.Records.{IsNew}
use Rattle.clone_desk.specs.Desks.{DeskModel, Fits, Gives}
use Rattle.clone_desk.specs.Steps.{DeskSteps}
use Rattle.clone_desk.specs.declared.machine.DeskAnswer.TheVariants as answer
use Rattle.clone_desk.specs.declared.machine.DeskCall.TheVariants as call
use Rattle.clone_copying.specs.Calling.{Calls}
use Rattle.clone_copying.specs.Connecting.{DeskSeat}
use Rattle.clone_copying.proofs.CallingLemmas.{last_step, worked_call}
use Rattle.clone_task_jobs.specs.Serving.{IsAwaited}

module _ {N L X : Type 0} (net : Net N L X) (link : Link L X) where
  pub handed_new : (v w : DeskSeat N L) (task : ℕ) (result : Option (ℕ × L)) → Calls (DeskSteps net link) v (call.DonorEnd task) (answer.HandedOut result) w → IfSome result (λ r. IsNew link (link.name r.1) Donor r.1)
  handed_new v w task None called = tt
  handed_new v w task (Some r) called =
      let new = (worked_call (DeskSteps net link) v w (call.DonorEnd task) (answer.HandedOut (Some r)) called).2.1.2.does.end_is in
      record { is = record { name_is = refl; side_is = new.is.side_is }; opened = new.opened; sent = new.sent; received = new.received }

  abbrev pub FitsGiven : Type 0
  FitsGiven = (s t : DeskModel N L) (task place : ℕ) (taken e : L) → Gives net link s task place taken t → ◌≡◌ (link.name e) (link.name taken) → link.side e ≡ Donor → Fits link t place Donor e

  pub handed_awaited : FitsGiven → (v w : DeskSeat N L) (task : ℕ) (result : Option (ℕ × L)) → Calls (DeskSteps net link) v (call.DonorEnd task) (answer.HandedOut result) w → IfSome result (λ r. IsAwaited link w r.0 r.1)
  handed_awaited fits v w task None called = tt
  handed_awaited fits v w task (Some r) called = λ back name side first is.
      let step = last_step (DeskSteps net link) v w (call.DonorEnd task) (answer.HandedOut (Some r)) called first is in
      fits step.0 _ task r.0 r.1 back step.1.does name side

  pub never_paired : (v w : DeskSeat N L) (task : ℕ) (result : Result (ℕ × L) Refusal) → Calls (DeskSteps net link) v (call.DonorEnd task) (answer.Paired result) w → ⊥
  never_paired v w task result called = (worked_call (DeskSteps net link) v w (call.DonorEnd task) (answer.Paired result) called).2.1.2.does

  pub never_kept : (v w : DeskSeat N L) (task : ℕ) → Calls (DeskSteps net link) v (call.DonorEnd task) answer.Kept w → ⊥
  never_kept v w task called = (worked_call (DeskSteps net link) v w (call.DonorEnd task) answer.Kept called).2.1.2.does

  pub back_paired : (v w : DeskSeat N L) (place : ℕ) (back : L) (result : Result (ℕ × L) Refusal) → Calls (DeskSteps net link) v (call.GiveBack place Donor back) (answer.Paired result) w → ⊥
  back_paired v w place back result called = (worked_call (DeskSteps net link) v w (call.GiveBack place Donor back) (answer.Paired result) called).2.1.2.does

  pub back_handed : (v w : DeskSeat N L) (place : ℕ) (back : L) (result : Option (ℕ × L)) → Calls (DeskSteps net link) v (call.GiveBack place Donor back) (answer.HandedOut result) w → ⊥
  back_handed v w place back result called = (worked_call (DeskSteps net link) v w (call.GiveBack place Donor back) (answer.HandedOut result) called).2.1.2.does
