use Rattle.clone_trx.proofs.Common.{◌∙◌, sym, ap, nat_cmp_total, Opened, len_listed}
use Rattle.std.specs.FinMap as finite
use Rattle.clone_trx.proofs.active.Active.len.Goals as goal

pub returns : goal.returns
returns c = c.len.ensures.len ∙ sym (len_listed nat_cmp_total c.self.inside.commits c.len.ensures.ordered) ∙ ap (λ (d : Opened). finite.len d) c.self.view_is
