use Rattle.std.proofs.Common.{◌≡◌, ℕ, ◌<◌}
use Rattle.clone_row.specs.Slots.{slots, slot_in, unused}
use Rattle.clone_row.proofs.slots.free_slot.Given as goal

abbrev pub invariant-loop-slot_number : goal.invariant-loop-slot_number
invariant-loop-slot_number l = (k : ℕ) → k < l.slot_number → slot_in (slots l.page) k ≡ unused → ⊥
