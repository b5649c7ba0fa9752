use Rattle.std.proofs.Common.{◌∙◌, sym, ap}
use Rattle.std.specs.Cmp.{nat_cmp_total}
use Rattle.clone_base.proofs.OrderedMaps.{len_listed}
use Rattle.std.specs.FinMap as finite
use Rattle.clone_base.specs.Counted.{Counted}
use Rattle.clone_base.proofs.counts.Counts.len.Goals as goal

pub returns : goal.returns
returns c = c.len.ensures.len ∙ sym (len_listed nat_cmp_total c.self.inside.counts c.len.ensures.ordered) ∙ ap (λ (d : Counted). finite.len d) c.self.view_is
