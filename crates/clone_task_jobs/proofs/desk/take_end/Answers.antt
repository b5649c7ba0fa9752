use Rattle.std.proofs.Common.{inl, inr, subst}
use Rattle.clone_desk.specs.Steps.{DeskSteps}
use Rattle.clone_desk.specs.declared.machine.DeskAnswer.{DeskAnswer}
use Rattle.clone_desk.specs.declared.machine.DeskAnswer.TheVariants as answer
use Rattle.clone_desk.specs.declared.machine.DeskCall.TheVariants as call
use Rattle.clone_copying.specs.Calling.{Calls}
use Rattle.clone_copying.proofs.CallingLemmas.{worked_one}
use Rattle.clone_task_jobs.proofs.DeskLemmas.{handed_awaited, handed_new, never_kept, never_paired}
use Rattle.clone_task_jobs.proofs.desk.take_end.Goals as goal

pub unreachable-requires : goal.unreachable-requires
unreachable-requires g c = elim c.in-Paired.is [
  | inl paired ↦ never_paired g.N.Net g.N.End.Link c.args.desk.now c.call.new.self c.args.task paired.0
      (subst (λ (a : DeskAnswer _). Calls (DeskSteps g.N.Net g.N.End.Link) c.args.desk.now (call.DonorEnd c.args.task) a c.call.new.self) paired.1 c.call.ensures)
  | inr kept ↦ never_kept g.N.Net g.N.End.Link c.args.desk.now c.call.new.self c.args.task
      (subst (λ (a : DeskAnswer _). Calls (DeskSteps g.N.Net g.N.End.Link) c.args.desk.now (call.DonorEnd c.args.task) a c.call.new.self) kept c.call.ensures)
]

pub returns-clause-asks : goal.returns-clause-asks
returns-clause-asks g c =
    worked_one (DeskSteps g.N.Net g.N.End.Link) c.args.desk.now c.call.new.self (call.DonorEnd c.args.task) (answer.HandedOut c.in-HandedOut.result)
    (subst (λ (a : DeskAnswer _). Calls (DeskSteps g.N.Net g.N.End.Link) c.args.desk.now (call.DonorEnd c.args.task) a c.call.new.self) c.in-HandedOut.is c.call.ensures)

pub returns-clause-new : goal.returns-clause-new
returns-clause-new g c =
    handed_new g.N.Net g.N.End.Link c.args.desk.now c.call.new.self c.args.task c.in-HandedOut.result
    (subst (λ (a : DeskAnswer _). Calls (DeskSteps g.N.Net g.N.End.Link) c.args.desk.now (call.DonorEnd c.args.task) a c.call.new.self) c.in-HandedOut.is c.call.ensures)

pub returns-clause-awaited : goal.returns-clause-awaited
returns-clause-awaited g c =
    handed_awaited g.N.Net g.N.End.Link c.fit_laws.ensures.handed c.args.desk.now c.call.new.self c.args.task c.in-HandedOut.result
    (subst (λ (a : DeskAnswer _). Calls (DeskSteps g.N.Net g.N.End.Link) c.args.desk.now (call.DonorEnd c.args.task) a c.call.new.self) c.in-HandedOut.is c.call.ensures)
