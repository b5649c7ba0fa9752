use Rattle.clone_image.specs.Added.{Adds, Below, InSlot}
use Rattle.clone_image.proofs.rows.add_slots.Given as goal

-- the rows of the slots so far
abbrev pub invariant-loop-slot_number : goal.invariant-loop-slot_number
invariant-loop-slot_number l = Adds l.fn.tables l.tables (Below l.slot_number (InSlot l.table l.page))
