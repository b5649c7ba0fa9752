use Rattle.std.proofs.Common.{◌∙◌, ap}
use Rattle.std.specs.FinMap as finite
use Rattle.std.specs.Cmp.{nat_cmp_total}
use Rattle.std.proofs.lemmas.Map.Lookups.{exact_unsigned}
use Rattle.clone_base.proofs.OrderedMaps.{inserted}
use Rattle.clone_base.specs.Counted.{Counted}
use Rattle.clone_base.proofs.counts.Counts.insert.Goals as goal

pub returns-clause-ok : goal.returns-clause-ok
returns-clause-ok c = inserted nat_cmp_total exact_unsigned c.self.inside.counts c.insert.new.self c.args.number c.args.count c.in_ok-insert.ensures.updates ∙ ap (λ (f : Counted). finite.insert f c.args.number c.args.count) c.self.view_is
