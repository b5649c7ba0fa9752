use Rattle.std.proofs.Common.{ℕ, ap}
use Rattle.clone_tasks.specs.Rules.{sending_rule}
use Rattle.clone_tasks.proofs.SendLemmas.{commands}
use Rattle.clone_fetch.specs.Fetching.{puts}
use Rattle.clone_fetch.specs.declared.answer.TaskAnswer.TheVariants as says
use Rattle.clone_fetch.proofs.sending.send.Goals as goal

pub returns-in-Ok : goal.returns-in-Ok
returns-in-Ok c =
    let next = c.in-Ok-Some.frame in
    let sent = rw c.in-Ok-Some.field-0-is at c.in-Ok-Some.ensures.frame in
    let command = commands (sending_rule c.args.reception.now.table c.args.task) c.args.reception.now.table c.args.task c.args.floor next sent in
    puts next (record { is = c.in-Ok.ensures.is.is; sender = command }) sent c.in-Ok-Some.ensures.table c.in-Ok.ensures.ok (ap (λ (code : ℕ). says.Sent code) c.code.ensures)
