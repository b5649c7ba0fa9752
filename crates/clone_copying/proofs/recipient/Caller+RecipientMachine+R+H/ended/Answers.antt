use Rattle.std.proofs.Common.{subst}
use Rattle.clone_fetching.specs.declared.machine.RecipientAnswer.{RecipientAnswer}
use Rattle.clone_fetching.specs.declared.machine.RecipientAnswer.TheVariants as answer
use Rattle.clone_fetching.specs.declared.machine.RecipientCall.TheVariants as call
use Rattle.clone_fetching.specs.Recipients.{RecipientSteps}
use Rattle.clone_copying.specs.Calling.{Calls}
use Rattle.clone_copying.proofs.CallingLemmas.{worked_one}
use Rattle.clone_copying.proofs.RecipientLemmas.{never_stepped}
use Rattle.clone_copying.proofs.recipient.Caller+RecipientMachine+R+H.ended.Goals as goal

pub unreachable-requires : goal.unreachable-requires
unreachable-requires g c =
    never_stepped g.R.PageDisk.state c.args.self.now c.call.new.self c.in-Stepped.field-0
    (subst (λ (a : RecipientAnswer). Calls (RecipientSteps g.R.PageDisk.state) c.args.self.now call.Ended a c.call.new.self) c.in-Stepped.is c.call.ensures)

pub returns : goal.returns
returns g c =
    worked_one (RecipientSteps g.R.PageDisk.state) c.args.self.now c.call.new.self call.Ended (answer.Ended c.in-Ended.how)
    (subst (λ (a : RecipientAnswer). Calls (RecipientSteps g.R.PageDisk.state) c.args.self.now call.Ended a c.call.new.self) c.in-Ended.is c.call.ensures)
