use Rattle.std.proofs.Common.{arith, length, length-append, ap, [], ◌∷◌}
use Rattle.clone_ring.proofs.RowLemmas.{longer_row}
use Rattle.clone_ring.proofs.blocks.Blocks.new.Goals as goal

pub loop-made-preserved : goal.loop-made-preserved
loop-made-preserved c =
    let blocks = c.loop-made.blocks.items in
    let block = c.in_ok-with_capacity.field-0 in
    let room = c.min-room.result in
    let rule = c.loop-made.invariant in
    let whole = rule.whole c.loop-made-test.true in
    let few = c.min-room.ensures in
    let items = c.in_ok-push.ensures.items in
    let done = longer_row blocks c.push.new.self.items c.loop-made.made room block rule.row rule.empty whole items c.in_ok-with_capacity.ensures.items
    (omega (arith, few)) (omega (arith, c.in_ok-with_capacity.ensures.exact)) in
    record {
      row = done.row;
      empty = done.empty;
      within = omega (arith, few, c.loop-made-test.true);
      whole = λ more. omega (arith, few, whole, more, ap length items, length-append blocks (block ∷ []));
    }
