use Rattle.std.proofs.Common.{◌∙◌}
use Rattle.clone_model.proofs.RowMaps.{to_item, made_one}
use Rattle.clone_model.proofs.tables.make_room.Goals as goal

pub loop-change-preserved : goal.loop-change-preserved
loop-change-preserved c = (
  c.make_slot.ensures.same ∙ c.loop-change.invariant.0,
  made_one c.loop-change.slots c.make_slot.new.slots _ _ _ (to_item _ _ _ c.loop-change-test.true c.change-item.is) c.loop-change.invariant.1 c.in_ok-make_slot.ensures.room c.make_slot.ensures.others,
)
