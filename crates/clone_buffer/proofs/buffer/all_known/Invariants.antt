use Rattle.std.proofs.Common.{drop}
use Rattle.clone_buffer.proofs.Common.{AllByRecursion}
use Rattle.clone_mtr.specs.Records.{IsRecord}
use Rattle.clone_buffer.proofs.buffer.all_known.Given as goal

-- those that are left are what lacks
abbrev pub invariant-loop-entry : goal.invariant-loop-entry
invariant-loop-entry l = AllByRecursion IsRecord (drop l.entry-index l.records) → AllByRecursion IsRecord l.records
