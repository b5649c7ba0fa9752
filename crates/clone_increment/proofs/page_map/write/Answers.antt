use Rattle.clone_increment.proofs.LayLemmas.{lays_all, lays_first, lays_more, lays_room}
use Rattle.clone_increment.proofs.page_map.write.Goals as goal

pub loop-place-init : goal.loop-place-init
loop-place-init c =
    lays_first c.args.slots.now c.args.others.now _ c.into_iter-place-iterator.ensures.into_iter_gives.0 c.into_iter-place-iterator.ensures.into_iter_gives.5 c.requires

pub write_slot-requires : goal.write_slot-requires
write_slot-requires c =
    lays_room c.loop-place.slots c.args.others.now c.args.slots.now c.loop-place.place-iterator c.next.new.self c.in-Some.place.now c.in-Some.slot.now c.in-Some.ensures.steps c.loop-place.invariant

pub loop-place-preserved : goal.loop-place-preserved
loop-place-preserved c =
    lays_more c.loop-place.slots c.write_slot.new.slots c.args.others.now c.args.slots.now c.loop-place.place-iterator c.next.new.self c.in-Some.place.now c.in-Some.slot.now c.in-Some.ensures.steps c.loop-place.invariant c.write_slot.ensures.value c.write_slot.ensures.others

pub returns : goal.returns
returns c = lays_all c.loop-place.slots c.args.others.now c.args.slots.now c.loop-place.place-iterator c.in-None.ensures.steps.0 c.loop-place.invariant
