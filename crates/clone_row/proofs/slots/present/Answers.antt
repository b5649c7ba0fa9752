use Rattle.std.proofs.Common.{◌∙◌, sym, ap}
use Rattle.clone_row.specs.Slots.{row_in}
use Rattle.clone_row.proofs.Rows.{slot_in-past}
use Rattle.clone_row.proofs.slots.present.Goals as goal

pub returns-then-slot-ge-ROW_SLOT_COUNT : goal.returns-then-slot-ge-ROW_SLOT_COUNT
returns-then-slot-ge-ROW_SLOT_COUNT c = sym (ap row_in (slot_in-past c.args.slot c.args.page.now c.if-slot-ge-ROW_SLOT_COUNT.true))

pub returns : goal.returns
returns c = c.row.ensures ∙ ap row_in c.slot_bytes.ensures.slot
