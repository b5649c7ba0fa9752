use Rattle.std.proofs.Common.{◌∙◌, ap}
use Rattle.std.specs.FinMap as finite
use Rattle.std.specs.Cmp.{nat_cmp_total}
use Rattle.std.proofs.lemmas.Map.Lookups.{exact_unsigned}
use Rattle.clone_base.proofs.OrderedMaps.{removed}
use Rattle.clone_base.specs.Counted.{Counted}
use Rattle.clone_base.proofs.counts.Counts.remove.Goals as goal

pub returns : goal.returns
returns c = removed nat_cmp_total exact_unsigned c.self.inside.counts c.remove.new.self c.args.number c.remove.ensures.updates ∙ ap (λ (f : Counted). finite.remove f c.args.number) c.self.view_is
