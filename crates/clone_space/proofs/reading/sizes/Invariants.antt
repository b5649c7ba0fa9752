use Rattle.std.proofs.Common.{◌≡◌, take}
use Rattle.clone_space.specs.Entries.{dictionary, sizes}
use Rattle.clone_space.proofs.reading.sizes.Given as goal

abbrev pub invariant-loop-entry_number : goal.invariant-loop-entry_number
invariant-loop-entry_number l = l.sizes.items ≡ sizes (take l.entry_number (dictionary l.page))
