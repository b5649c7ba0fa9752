use Rattle.std.proofs.Common.{◌≡◌, ◌∙◌, refl, sym, inl, inr}
use Rattle.clone_tasks.specs.declared.rule.Rule.TheVariants as rule
use Rattle.clone_tasks.specs.Rules.{rule_at}
use Rattle.clone_fetch.proofs.StepLemmas.{by_rule, sends_by}
use Rattle.clone_fetch.proofs.fetch_core.FetchCore.step.Goals as goal

pub returns-in-Receive-clause-steps : goal.returns-in-Receive-clause-steps
returns-in-Receive-clause-steps g c =
    let which = sym c.in-Receive.is ∙ c.rule.ensures in
    by_rule rule.Receive _ _ _ _ _ _ _ (rw (c.self.view_is, c.table-table.ensures) at which) (c.receive.ensures.receives, refl)

pub returns-in-Complete-clause-steps : goal.returns-in-Complete-clause-steps
returns-in-Complete-clause-steps g c =
    let which = sym c.in-Complete.is ∙ c.rule.ensures in
    by_rule rule.Complete _ _ _ _ _ _ _ (rw (c.self.view_is, c.table-table.ensures) at which) (c.complete.ensures.completes, refl)

pub returns-in-Connect-clause-steps : goal.returns-in-Connect-clause-steps
returns-in-Connect-clause-steps g c =
    let which = sym c.in-Connect.is ∙ c.rule.ensures in
    let is : rule.Connect ≡ rule_at c.args.self.now c.args.reception.now.table c.args.task c.args.link = rw (c.self.view_is, c.table-table.ensures) at which in
    by_rule rule.Connect _ _ _ _ _ _ _ is (sends_by c.args.self.now rule.Connect c.args.link _ _ _ _ _ is refl c.send.ensures refl refl)

pub returns-in-Acknowledge-clause-steps : goal.returns-in-Acknowledge-clause-steps
returns-in-Acknowledge-clause-steps g c =
    elim c.in-Acknowledge.is [
      | inl by ↦
          let which = sym by.1 ∙ c.rule.ensures in
          let is : rule.Acknowledge by.0 ≡ rule_at c.args.self.now c.args.reception.now.table c.args.task c.args.link = rw (c.self.view_is, c.table-table.ensures) at which in
          by_rule (rule.Acknowledge by.0) _ _ _ _ _ _ _ is (sends_by c.args.self.now (rule.Acknowledge by.0) c.args.link _ _ _ _ _ is refl c.send-in-Acknowledge.ensures refl refl)
      | inr by ↦
          let which = sym by.1 ∙ c.rule.ensures in
          let is : rule.Execute by.0 ≡ rule_at c.args.self.now c.args.reception.now.table c.args.task c.args.link = rw (c.self.view_is, c.table-table.ensures) at which in
          by_rule (rule.Execute by.0) _ _ _ _ _ _ _ is (sends_by c.args.self.now (rule.Execute by.0) c.args.link _ _ _ _ _ is refl c.send-in-Acknowledge.ensures refl refl)
    ]
