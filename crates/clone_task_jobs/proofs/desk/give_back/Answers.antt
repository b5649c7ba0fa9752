use Rattle.std.proofs.Common.{inl, inr, subst}
use Rattle.clone_outside.specs.declared.link.Side.TheVariants.{Donor}
use Rattle.clone_desk.specs.Steps.{DeskSteps}
use Rattle.clone_desk.specs.declared.machine.DeskAnswer.{DeskAnswer}
use Rattle.clone_desk.specs.declared.machine.DeskAnswer.TheVariants as answer
use Rattle.clone_desk.specs.declared.machine.DeskCall.TheVariants as call
use Rattle.clone_copying.specs.Calling.{Calls}
use Rattle.clone_copying.proofs.CallingLemmas.{worked_one}
use Rattle.clone_task_jobs.proofs.DeskLemmas.{back_handed, back_paired}
use Rattle.clone_task_jobs.proofs.desk.give_back.Goals as goal

pub unreachable-requires : goal.unreachable-requires
unreachable-requires g c = elim c.in-Paired.is [
  | inl paired ↦ back_paired g.N.Net g.N.End.Link c.args.desk.now c.call.new.self c.args.place c.args.end paired.0
      (subst (λ (a : DeskAnswer _). Calls (DeskSteps g.N.Net g.N.End.Link) c.args.desk.now (call.GiveBack c.args.place Donor c.args.end) a c.call.new.self) paired.1 c.call.ensures)
  | inr handed ↦ back_handed g.N.Net g.N.End.Link c.args.desk.now c.call.new.self c.args.place c.args.end handed.0
      (subst (λ (a : DeskAnswer _). Calls (DeskSteps g.N.Net g.N.End.Link) c.args.desk.now (call.GiveBack c.args.place Donor c.args.end) a c.call.new.self) handed.1 c.call.ensures)
]

pub returns : goal.returns
returns g c =
    worked_one (DeskSteps g.N.Net g.N.End.Link) c.args.desk.now c.call.new.self (call.GiveBack c.args.place Donor c.args.end) answer.Kept
    (subst (λ (a : DeskAnswer _). Calls (DeskSteps g.N.Net g.N.End.Link) c.args.desk.now (call.GiveBack c.args.place Donor c.args.end) a c.call.new.self) c.in-Kept.is c.call.ensures)
