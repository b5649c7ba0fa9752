use Rattle.clone_model.proofs.RowMaps.{updated_rows}
use Rattle.clone_model.proofs.tables.put.Goals as goal

pub returns-clause-ok : goal.returns-clause-ok
returns-clause-ok c = updated_rows c.args.slots.now c.insert.new.self _ _ c.in_ok-insert.ensures.updates
