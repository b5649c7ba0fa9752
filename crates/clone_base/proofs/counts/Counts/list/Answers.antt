use Rattle.std.proofs.Common.{◌≡◌, ◌∙◌, ℕ, List, IfOk, sym, ap, subst}
use Rattle.std.specs.FinMap as finite
use Rattle.std.specs.Cmp.{nat_cmp_total}
use Rattle.clone_base.proofs.OrderedMaps.{entries_listed}
use Rattle.clone_base.specs.Counted.{Counted}
use Rattle.clone_base.proofs.counts.Counts.list.Goals as goal

pub returns : goal.returns
returns c =
    let entries = entries_listed nat_cmp_total c.self.inside.counts c.len-count.ensures.ordered in
    subst (λ (es : List (ℕ × ℕ)). IfOk c.listed.result (λ files. files.items ≡ es)) (sym entries ∙ ap (λ (f : Counted). finite.entries f) c.self.view_is) c.listed.ensures
