use Rattle.std.proofs.Common.{◌∙◌, sym, ap}
use Rattle.std.specs.FinMap as finite
use Rattle.std.specs.Cmp.{nat_cmp_total}
use Rattle.clone_base.proofs.OrderedMaps.{get_listed}
use Rattle.clone_base.specs.Counted.{Counted}
use Rattle.clone_base.proofs.counts.Counts.get.Goals as goal

pub returns : goal.returns
returns c = c.copied.ensures ∙ c.get.ensures.value ∙ sym (get_listed nat_cmp_total c.self.inside.counts c.args.number) ∙ ap (λ (f : Counted). finite.get f c.args.number) c.self.view_is
