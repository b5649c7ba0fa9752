use Rattle.std.proofs.Common.{sym}
use Rattle.clone_held.proofs.HeldLemmas.{held}
use Rattle.clone_held.proofs.RunLemmas.{known_begun, known_run}
use Rattle.clone_held.proofs.laws.held_laws.Goals as goal

pub returns : goal.returns
returns g c = λ state number lsn position floor d trace first run bounded fresh runs once acked begun legal heard told.
    held number lsn position floor d trace bounded fresh runs once acked _ _
    ((known_run state number trace first run (known_begun state number trace first begun) legal heard).completed lsn position (sym told.end)) (sym told.end)
