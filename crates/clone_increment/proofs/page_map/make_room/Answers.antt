use Rattle.std.proofs.Common.{◌∙◌, refl}
use Rattle.clone_increment.proofs.LayLemmas.{room_all, room_first, room_more}
use Rattle.clone_increment.proofs.page_map.make_room.Goals as goal

pub loop-place-init : goal.loop-place-init
loop-place-init c = (refl, room_first c.args.slots.now c.args.others.now c.into_iter-place-iterator.result (c.into_iter-place-iterator.ensures.into_iter_gives ∙ c.keys-place-items.ensures.rest))

pub loop-place-preserved : goal.loop-place-preserved
loop-place-preserved c = (
  c.make_slot.ensures.same ∙ c.loop-place.invariant.0,
  room_more c.loop-place.slots c.make_slot.new.slots c.args.others.now c.loop-place.place-iterator c.next.new.self c.in-Some.place.now c.in-Some.ensures.steps c.loop-place.invariant.1 c.in_ok-make_slot.ensures.room c.make_slot.ensures.others,
)

pub returns-clause-room : goal.returns-clause-room
returns-clause-room c = room_all c.loop-place.slots c.args.others.now c.loop-place.place-iterator c.in-None.ensures.steps.0 c.loop-place.invariant.1
