use Rattle.clone_trx.proofs.Common.{◌∙◌, sym, ap, row_cmp_total, Locks, get_listed}
use Rattle.std.specs.FinMap as finite
use Rattle.clone_trx.proofs.locks.Locks.holder.Goals as goal

pub returns : goal.returns
returns c =
    c.copied.ensures ∙ c.get.ensures.value ∙ sym (get_listed row_cmp_total c.self.inside.holders (c.args.table, c.args.key))
    ∙ ap (λ (m : Locks). finite.get m (c.args.table, c.args.key)) c.self.view_is
