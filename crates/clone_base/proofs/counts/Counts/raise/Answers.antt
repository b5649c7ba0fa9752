use Rattle.std.proofs.Common.{◌∙◌, ap, sym, subst, IsSome}
use Rattle.std.specs.FinMap as finite
use Rattle.clone_base.specs.Counted.{Counted}
use Rattle.clone_base.proofs.counts.Counts.raise.Goals as goal

pub returns : goal.returns
returns c = λ known.
    c.raise_in.ensures (subst (λ (f : Counted). IsSome (finite.get f c.args.number)) (sym c.self.view_is) known) ∙ ap (λ (f : Counted). finite.insert f c.args.number c.args.count) c.self.view_is
