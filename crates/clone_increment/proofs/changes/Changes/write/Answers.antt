use Rattle.std.proofs.Common.{◌∙◌, ℕ, ap}
use Rattle.std.specs.FinSet as set
use Rattle.clone_model.specs.Keys.{row_cmp}
use Rattle.clone_model.proofs.RowMaps.{row_cmp_exact, row_cmp_total}
use Rattle.clone_increment.specs.Tracked.{Changed, with_written}
use Rattle.clone_increment.proofs.SetLemmas.{set_inserted}
use Rattle.clone_increment.proofs.changes.Changes.write.Goals as goal

pub returns-clause-ok : goal.returns-clause-ok
returns-clause-ok c =
    let with : set.FinSet row_cmp → Changed = λ pages. record { written = pages; made = set.from_list c.self.inside.made.keys } in
    let place : ℕ × ℕ = (c.args.space, c.args.page) in
    ap with (set_inserted row_cmp_total row_cmp_exact c.self.inside.written c.insert.new.self place c.in_ok-insert.ensures.updates) ∙ ap (λ (changed : Changed). with_written changed place) c.self.view_is
