use Rattle.clone_trx.proofs.Common.{◌∙◌, sym, ap, nat_cmp_total, exact_unsigned, Opened, removed}
use Rattle.std.specs.FinMap as finite
use Rattle.clone_trx.proofs.LastChangeLemmas.{get_opened}
use Rattle.clone_trx.proofs.active.Active.remove.Goals as goal

pub returns-clause-was : goal.returns-clause-was
returns-clause-was c = c.remove.ensures.value ∙ sym (get_opened c.self.inside.commits c.args.self.now c.args.trx c.self.view_is)

pub returns-clause-removed : goal.returns-clause-removed
returns-clause-removed c = removed nat_cmp_total exact_unsigned c.self.inside.commits c.remove.new.self c.args.trx c.remove.ensures.updates ∙ ap (λ (d : Opened). finite.remove d c.args.trx) c.self.view_is
