use Rattle.clone_image.specs.Added.{InSlot}
use Rattle.clone_image.proofs.RowMapLemmas.{adds_none, adds_next}
use Rattle.clone_image.proofs.rows.add_slots.Goals as goal

pub loop-slot_number-init : goal.loop-slot_number-init
loop-slot_number-init c = adds_none c.args.tables.now (InSlot c.args.table c.args.page.now)

pub loop-slot_number-preserved : goal.loop-slot_number-preserved
loop-slot_number-preserved c = adds_next c.args.tables.now c.loop-slot_number.tables c.add_slot.new.tables (InSlot c.args.table c.args.page.now) c.loop-slot_number.slot_number c.loop-slot_number.invariant c.in_ok-add_slot.ensures
