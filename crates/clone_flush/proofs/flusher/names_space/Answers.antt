use Rattle.std.proofs.Common.{◌∙◌, ℕ, List, ap, is_some}
use Rattle.std.specs.Ordering.{eq_by_cmp}
use Rattle.std.specs.Set.{is_member}
use Rattle.clone_base.proofs.OrderedMaps.{get_listed}
use Rattle.clone_model.proofs.RowMaps.{row_cmp_total}
use Rattle.clone_model.specs.Keys.{row_cmp}
use Rattle.clone_flush.proofs.flusher.names_space.Goals as goal

pub returns-clause-there : goal.returns-clause-there
returns-clause-there c = λ page.
    ap is_some (get_listed row_cmp_total c.args.writes.now page) ∙ c.keys.ensures.has page
    ∙ ap (λ (pages : List (ℕ × ℕ)). is_member (eq_by_cmp row_cmp) pages page) c.keys.ensures.rest
