use Rattle.std.proofs.Common.{arith}
use Rattle.clone_dump.proofs.RowsLemmas.{recovered_shows, recovered_cause, recovered_same}
use Rattle.clone_dump.proofs.recovering.recovered_rows.Goals as goal

pub returns-clause-rows : goal.returns-clause-rows
returns-clause-rows g c = recovered_shows c.open_rows.result _ _ _ c.in_ok-recover.field-0 (omega arith) c.in_ok-recover.ensures.ok c.open_rows.ensures.reads.told c.open_rows.ensures.rows

pub returns-clause-cause : goal.returns-clause-cause
returns-clause-cause g c = recovered_cause c.open_rows.result _ _ c.in_ok-recover.ensures.marked c.recover.ensures.works.tells c.open_rows.ensures.cause

pub returns-clause-incomplete : goal.returns-clause-incomplete
returns-clause-incomplete g c = recovered_same c.open_rows.result _ _ _ c.in_ok-recover.ensures.marked c.recover.ensures.works.tells c.open_rows.ensures.reads.told c.open_rows.ensures.cause
