use Rattle.std.proofs.Common.{ℕ, ap, sym, ◌∙◌, nat_cmp}
use Rattle.clone_core.proofs.Common.{nat_cmp_total, get_listed}
use Rattle.std.specs.FinMap as finite
use Rattle.clone_core.proofs.begun.Begun.count.Goals as goal

pub returns : goal.returns
returns c = c.copied.ensures ∙ c.get.ensures.value ∙ sym (get_listed nat_cmp_total c.self.inside.counts c.args.writer) ∙ ap (λ (m : finite.FinMap nat_cmp ℕ). finite.get m c.args.writer) c.self.view_is
