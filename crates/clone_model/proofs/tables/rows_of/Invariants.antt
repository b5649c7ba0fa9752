use Rattle.std.proofs.Common.{◌≡◌, ◌++◌}
use Rattle.clone_model.proofs.SlotOrderLemmas.{present_rows}
use Rattle.clone_model.proofs.tables.rows_of.Given as goal

abbrev pub invariant-loop-table : goal.invariant-loop-table
invariant-loop-table l = l.rows.items ++ present_rows l.table-iterator ≡ present_rows l.slots.entries
