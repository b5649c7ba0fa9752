use Rattle.clone_model.specs.Room.{kept}
use Rattle.clone_model.proofs.RowMaps.{from_item, wrote_one}
use Rattle.clone_model.proofs.tables.write.Goals as goal

pub loop-change-preserved : goal.loop-change-preserved
loop-change-preserved c =
    wrote_one c.loop-change.slots c.write_one.new.slots (kept c.args.slots.now.entries) c.args.changes.now _ _ _ (from_item _ _ _ c.loop-change-test.true c.change-item.is) c.loop-change.invariant c.write_one.ensures.value c.write_one.ensures.others
