use Rattle.clone_model.proofs.BinlogLines.{StopsAt-changes}
use Rattle.clone_model.proofs.reading.read_changes.Goals as goal

pub returns-in_default : goal.returns-in_default
returns-in_default c = StopsAt-changes _ _ _ _ _ _ c.loop-number.invariant c.loop-number-test.true c.in_default.ensures.none
