use Rattle.std.proofs.Common.{◌≡◌, drop}
use Rattle.clone_model.specs.Room.{kept}
use Rattle.clone_model.specs.History.{after_changes}
use Rattle.clone_model.specs.Room.{HasRoom}
use Rattle.clone_model.proofs.tables.write.Given as goal

abbrev pub invariant-loop-change : goal.invariant-loop-change
invariant-loop-change l =
    (after_changes (kept l.slots.entries) (drop l.change-index l.changes) ≡ after_changes (kept l.fn.slots.entries) l.changes)
    × HasRoom l.slots (drop l.change-index l.changes)
