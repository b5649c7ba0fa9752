use Rattle.std.proofs.Common.{ℕ, ◌∙◌, sym, ap, subst, None, Some, IsSome, Option, nat_cmp}
use Rattle.clone_core.proofs.Common.{nat_cmp_total, get_listed}
use Rattle.std.specs.FinMap as finite
use Rattle.clone_core.proofs.CountLemmas.{restored}
use Rattle.clone_core.proofs.begun.Begun.restore.Goals as goal

pub returns-in_default : goal.returns-in_default
returns-in_default c = λ before count had is.
    restored c.self.inside.counts c.remove.new.self before c.args.writer count None (had ∙ c.in_default.is) (c.self.view_is ∙ is) c.remove.ensures.updates

pub returns : goal.returns
returns c = λ before count had is.
    restored c.self.inside.counts c.insert.new.self before c.args.writer count (Some c.in-Some.count) (had ∙ c.in-Some.is) (c.self.view_is ∙ is) c.in-Ok.ensures.updates

-- only a key that isn't there can be refused
pub unreachable-requires : goal.unreachable-requires
unreachable-requires c =
    let none = ap (λ (m : finite.FinMap nat_cmp ℕ). finite.get m c.args.writer) (sym c.self.view_is) ∙ get_listed nat_cmp_total c.self.inside.counts c.args.writer ∙ c.in-Err.ensures.absent in
    let some = subst (λ (o : Option ℕ). IsSome o) none c.requires in
    cc
