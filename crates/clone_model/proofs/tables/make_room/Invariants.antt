use Rattle.std.proofs.Common.{◌≡◌, take}
use Rattle.clone_model.specs.Room.{kept}
use Rattle.clone_model.specs.Room.{HasRoom}
use Rattle.clone_model.proofs.tables.make_room.Given as goal

abbrev pub invariant-loop-change : goal.invariant-loop-change
invariant-loop-change l = (kept l.slots.entries ≡ kept l.fn.slots.entries) × HasRoom l.slots (take l.change-index l.changes)
