use Rattle.clone_row.proofs.Rows as rows
use Rattle.clone_row.proofs.laws.header_write_laws.Goals as goal

pub returns-clause-slots : goal.returns-clause-slots
returns-clause-slots c = λ lsn space number patch page writes long. rows.slots-WritesHeader lsn patch page writes long

pub returns-clause-kind : goal.returns-clause-kind
returns-clause-kind c = λ lsn space number patch page writes long. rows.kind_of-effect lsn patch page writes.allowed long

pub returns-clause-long : goal.returns-clause-long
returns-clause-long c = λ lsn space number patch page writes long. rows.length-effect lsn patch page writes.allowed long

pub returns-clause-well_formed : goal.returns-clause-well_formed
returns-clause-well_formed c = λ lsn space number patch page writes long was. rows.well_formed-effect lsn space number patch page writes.allowed long was
