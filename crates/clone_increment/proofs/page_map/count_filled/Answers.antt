use Rattle.std.proofs.Common.{ap, arith, length}
use Rattle.std.specs.BTreeMap.{values}
use Rattle.clone_increment.proofs.PageCounts.{at_most_all, counted_all}
use Rattle.clone_increment.proofs.page_map.count_filled.Goals as goal

pub overflow_add-count : goal.overflow_add-count
overflow_add-count c =
    let items = c.values-slot-items.ensures in
    omega (arith, c.loop-slot.invariant, at_most_all (values c.args.slots.now), ap length items.rest, items.len, items.fits)

pub returns : goal.returns
returns c = counted_all c.args.slots.now c.loop-slot.count c.loop-slot.slot-iterator c.values-slot-items.ensures.ordered c.loop-slot.invariant c.in-None.ensures.steps.0
