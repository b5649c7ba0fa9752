use Rattle.clone_model.proofs.BinlogLines.{HasChanges}
use Rattle.clone_model.proofs.reading.read_changes.Given as goal

abbrev pub invariant-loop-number : goal.invariant-loop-number
invariant-loop-number l = HasChanges l.text l.changes l.number l.rest
