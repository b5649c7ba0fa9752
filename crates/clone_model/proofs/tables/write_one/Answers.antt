use Rattle.std.proofs.Common.{◌∙◌, ap}
use Rattle.clone_model.specs.Room.{kept}
use Rattle.clone_model.specs.History.{set_or_remove}
use Rattle.clone_model.proofs.RowMaps.{updated_rows, slots_stay}
use Rattle.clone_model.proofs.tables.write_one.Goals as goal

pub returns-clause-value : goal.returns-clause-value
returns-clause-value c =
    updated_rows c.args.slots.now c.insert.new.self _ _ c.in-Ok.ensures.updates ∙ ap (set_or_remove (kept c.args.slots.now.entries) (c.args.change.now.table, c.args.change.now.key)) c.copied-value.ensures

pub returns-clause-others : goal.returns-clause-others
returns-clause-others c = slots_stay c.args.slots.now c.insert.new.self _ _ c.in-Ok.ensures.updates
