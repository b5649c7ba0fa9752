use Rattle.std.proofs.Common.{subst}
use Rattle.clone_fetching.specs.declared.machine.RecipientAnswer.{RecipientAnswer}
use Rattle.clone_fetching.specs.declared.machine.RecipientCall.TheVariants as call
use Rattle.clone_fetching.specs.Recipients.{RecipientSteps}
use Rattle.clone_copying.specs.Calling.{Calls}
use Rattle.clone_copying.proofs.RecipientLemmas.{never_told, stepped}
use Rattle.clone_copying.proofs.recipient.Caller+RecipientMachine+R+H.step.Goals as goal

pub unreachable-requires : goal.unreachable-requires
unreachable-requires g c =
    never_told g.R.PageDisk.state c.args.self.now c.call.new.self c.args.step c.in-Ended.field-0
    (subst (λ (a : RecipientAnswer). Calls (RecipientSteps g.R.PageDisk.state) c.args.self.now (call.Step c.args.step) a c.call.new.self) c.in-Ended.is c.call.ensures)

pub returns : goal.returns
returns g c =
    stepped g.R.PageDisk.state c.args.self.now c.call.new.self c.args.step c.in-Stepped.stepped
    (subst (λ (a : RecipientAnswer). Calls (RecipientSteps g.R.PageDisk.state) c.args.self.now (call.Step c.args.step) a c.call.new.self) c.in-Stepped.is c.call.ensures)
