use Rattle.std.proofs.Common.{ℕ, ◌+◌, ap, ◌∙◌, unwrap_or, Option, nat_cmp}
use Rattle.clone_core.proofs.Common.{nat_cmp_total, exact_unsigned, inserted}
use Rattle.std.specs.FinMap as finite
use Rattle.clone_core.proofs.begun.Begun.begin.Goals as goal

pub returns-clause-ok : goal.returns-clause-ok
returns-clause-ok c =
    inserted nat_cmp_total exact_unsigned c.self.inside.counts c.insert.new.self c.args.writer (c.unwrap_or-next.result + 1) c.in_ok-insert.ensures.updates
    ∙ ap (λ (m : finite.FinMap nat_cmp ℕ). finite.insert m c.args.writer (c.unwrap_or-next.result + 1)) c.self.view_is
    ∙ ap (λ (n : ℕ). finite.insert c.args.self.now c.args.writer (n + 1)) (c.unwrap_or-next.ensures ∙ ap (λ (o : Option ℕ). unwrap_or o 0) c.count.ensures)
