use Rattle.std.proofs.Common.{◌%◌, ◌+◌}
use Rattle.std.proofs.lemmas.List.{append_assoc}
use Rattle.clone_workload.proofs.Draws.{next_change}
use Rattle.clone_workload.proofs.generator.generated.Goals as goal

pub changes-preserved : goal.changes-preserved
changes-preserved c =
    let more = next_change (1 + c.next.result % 8) c.changes._i c.args.tables c.changes.words c.changes-test.true in
    rw (c.in_ok-push.ensures.ok, c.next_change.ensures.change, c.next_change.ensures.left, append_assoc, ← more) c.changes.invariant
