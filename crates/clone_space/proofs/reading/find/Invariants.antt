use Rattle.std.proofs.Common.{◌≡◌, ℕ, ◌<◌}
use Rattle.clone_space.specs.Entries.{dictionary, entry_in}
use Rattle.clone_space.proofs.reading.find.Given as goal

abbrev pub invariant-loop-entry_number : goal.invariant-loop-entry_number
invariant-loop-entry_number l = (k : ℕ) → k < l.entry_number → (entry_in (dictionary l.page) k).table ≡ l.table → ⊥
