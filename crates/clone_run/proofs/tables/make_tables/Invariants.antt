use Rattle.clone_run.specs.Tables.{SetsUp}
use Rattle.clone_run.proofs.tables.make_tables.Given as goal

abbrev pub invariant-loop-number : goal.invariant-loop-number
invariant-loop-number g l = SetsUp l.fn.donor l.donor
