use Rattle.clone_trx.proofs.Common.{◌∙◌, ap, List, nat_cmp_total, exact_unsigned, Change, Opened, inserted}
use Rattle.std.specs.FinMap as finite
use Rattle.clone_trx.proofs.active.Active.begin.Goals as goal

pub returns-clause-ok : goal.returns-clause-ok
returns-clause-ok c =
    inserted nat_cmp_total exact_unsigned c.self.inside.commits c.insert.new.self c.args.trx (record { writer = c.args.writer; index = c.args.index; changes = c.new-changes.result }) c.in_ok-insert.ensures.updates
    ∙ ap (λ (d : Opened). finite.insert d c.args.trx (record { writer = c.args.writer; index = c.args.index; changes = c.new-changes.result })) c.self.view_is
    ∙ ap (λ (cs : List Change). finite.insert c.args.self.now c.args.trx (record { writer = c.args.writer; index = c.args.index; changes = cs })) c.new-changes.ensures
