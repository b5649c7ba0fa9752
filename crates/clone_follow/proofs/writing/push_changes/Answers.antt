use Rattle.clone_follow.proofs.WriteLemmas.{wrote_change, are_with}
use Rattle.clone_follow.proofs.writing.push_changes.Goals as goal

pub loop-change-preserved : goal.loop-change-preserved
loop-change-preserved c = record {
  so_far = wrote_change c.args.text.now.items c.loop-change.text.items _ c.args.changes.now c.loop-change.change-index c.change-item.result c.loop-change-test.true c.change-item.is c.loop-change.invariant.so_far c.in_ok-push_change.ensures.text;
  kept = are_with c.args.changes.now c.loop-change.change-index c.change-item.result c.loop-change-test.true c.change-item.is c.loop-change.invariant.kept c.in_ok-push_change.ensures.kept;
}
