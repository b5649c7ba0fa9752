use Rattle.std.proofs.Common.{sym}
use Rattle.clone_model.proofs.RowMaps.{slot_only, slots_stay}
use Rattle.clone_model.proofs.tables.make_slot.Goals as goal

pub returns-clause-same : goal.returns-clause-same
returns-clause-same c = slot_only c.args.slots.now c.insert.new.self _ c.in_ok-insert.ensures.updates (sym c.if-contains_key.ensures)

pub returns-clause-others : goal.returns-clause-others
returns-clause-others c = slots_stay c.args.slots.now c.insert.new.self _ _ c.in_ok-insert.ensures.updates
