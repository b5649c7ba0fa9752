use Rattle.std.proofs.Common.{◌≡◌, ◌+◌}
use Rattle.std.specs.BTreeMap.{values}
use Rattle.clone_increment.proofs.PageCounts.{filled_in}
use Rattle.clone_increment.proofs.page_map.count_filled.Given as goal

abbrev pub invariant-loop-slot : goal.invariant-loop-slot
invariant-loop-slot l = l.count + filled_in l.slot-iterator ≡ filled_in (values l.slots)
