use Rattle.clone_top.proofs.RecoveringLemmas.{over_disk}
use Rattle.clone_top.proofs.run.run_recover.Goals as goal

pub returns : goal.returns
returns g c = λ number source binlog.
    let left = c.leave.ensures in
    let said = c.say_recovered-status.ensures in
    over_disk _ _ _ number source binlog _ _ _ _ _ _ _ _ _ left.status left.donor left.recipient left.drops left.stop said.visits said.comes
