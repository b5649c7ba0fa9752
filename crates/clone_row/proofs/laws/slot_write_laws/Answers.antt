use Rattle.clone_row.proofs.Rows as rows
use Rattle.clone_row.proofs.laws.slot_write_laws.Goals as goal

pub returns-clause-slots : goal.returns-clause-slots
returns-clause-slots c = λ lsn space number j key value patch page writes long. rows.slots-WritesSlot lsn j key value patch page writes long

pub returns-clause-header : goal.returns-clause-header
returns-clause-header c = λ lsn space number j key value patch page writes long. rows.header-WritesSlot lsn j key value patch page writes long

pub returns-clause-long : goal.returns-clause-long
returns-clause-long c = λ lsn space number j key value patch page writes long. rows.length-effect lsn patch page (rows.allowed-WritesSlot writes) long

pub returns-clause-well_formed : goal.returns-clause-well_formed
returns-clause-well_formed c = λ lsn space number j key value patch page writes long was. rows.well_formed-effect lsn space number patch page (rows.allowed-WritesSlot writes) long was
