use Rattle.std.proofs.Common.{◌∙◌, true, false, sym}
use Rattle.clone_network.proofs.StepLemmas.{serves_nobody, serves_on}
use Rattle.clone_network.proofs.connection.Connection.serve.Goals as goal

pub returns-then-reaches_task : goal.returns-then-reaches_task
returns-then-reaches_task g c =
    rw (← c.self.view_is) (serves_on _ _ _ _ _ _ _ _ (rw (← c.self.view_is) at (sym c.reaches_task.ensures ∙ c.if-reaches_task.true)) c.step.ensures)

pub returns : goal.returns
returns g c =
    rw (← c.self.view_is) (serves_nobody _ _ _ _ _ _ _ _ (rw (← c.self.view_is) at (sym c.reaches_task.ensures ∙ c.if-reaches_task.false)) (rw c.new-unread.ensures.items at c.step-2.ensures))
