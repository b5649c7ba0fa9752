use Rattle.std.proofs.Common.{◌≡◌, ℕ, ◌<◌, Some}
use Rattle.clone_row.specs.Slots.{slots, slot_in, bound_key}
use Rattle.clone_row.proofs.slots.find.Given as goal

abbrev pub invariant-loop-slot_number : goal.invariant-loop-slot_number
invariant-loop-slot_number l = (k : ℕ) → k < l.slot_number → bound_key (slot_in (slots l.page) k) ≡ Some l.key → ⊥
