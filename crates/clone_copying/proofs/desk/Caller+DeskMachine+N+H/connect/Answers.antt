use Rattle.std.proofs.Common.{inl, inr, subst}
use Rattle.clone_desk.specs.Steps.{DeskSteps}
use Rattle.clone_desk.specs.declared.machine.DeskAnswer.{DeskAnswer}
use Rattle.clone_desk.specs.declared.machine.DeskAnswer.TheVariants as answer
use Rattle.clone_desk.specs.declared.machine.DeskCall.TheVariants as call
use Rattle.clone_copying.specs.Calling.{Calls}
use Rattle.clone_copying.proofs.CallingLemmas.{worked_one}
use Rattle.clone_copying.proofs.ConnectLemmas.{made_new, made_welcome, never_handed, never_kept}
use Rattle.clone_copying.proofs.desk.Caller+DeskMachine+N+H.connect.Goals as goal

pub unreachable-requires : goal.unreachable-requires
unreachable-requires g c = elim c.in-HandedOut.is [
  | inl handed ↦ never_handed g.N.Net g.N.End.Link c.args.self.now c.call.new.self c.args.task handed.0
      (subst (λ (a : DeskAnswer _). Calls (DeskSteps g.N.Net g.N.End.Link) c.args.self.now (call.Pair c.args.task) a c.call.new.self) handed.1 c.call.ensures)
  | inr kept ↦ never_kept g.N.Net g.N.End.Link c.args.self.now c.call.new.self c.args.task
      (subst (λ (a : DeskAnswer _). Calls (DeskSteps g.N.Net g.N.End.Link) c.args.self.now (call.Pair c.args.task) a c.call.new.self) kept c.call.ensures)
]

pub returns-clause-pairs : goal.returns-clause-pairs
returns-clause-pairs g c =
    worked_one (DeskSteps g.N.Net g.N.End.Link) c.args.self.now c.call.new.self (call.Pair c.args.task) (answer.Paired c.in-Paired.result)
    (subst (λ (a : DeskAnswer _). Calls (DeskSteps g.N.Net g.N.End.Link) c.args.self.now (call.Pair c.args.task) a c.call.new.self) c.in-Paired.is c.call.ensures)

pub returns-clause-new : goal.returns-clause-new
returns-clause-new g c =
    made_new g.N.Net g.N.End.Link c.args.self.now c.call.new.self c.args.task c.in-Paired.result
    (subst (λ (a : DeskAnswer _). Calls (DeskSteps g.N.Net g.N.End.Link) c.args.self.now (call.Pair c.args.task) a c.call.new.self) c.in-Paired.is c.call.ensures)

pub returns-clause-welcome : goal.returns-clause-welcome
returns-clause-welcome g c =
    made_welcome g.N.Net g.N.End.Link c.fit_laws.ensures.paired c.args.self.now c.call.new.self c.args.task c.in-Paired.result
    (subst (λ (a : DeskAnswer _). Calls (DeskSteps g.N.Net g.N.End.Link) c.args.self.now (call.Pair c.args.task) a c.call.new.self) c.in-Paired.is c.call.ensures)
