use Rattle.clone_row.proofs.Rows as rows
use Rattle.clone_row.proofs.laws.made_laws.Goals as goal

pub returns-clause-made : goal.returns-clause-made
returns-clause-made c = λ lsn space number kind page. rows.slots-initialised space number lsn kind

pub returns-clause-zero : goal.returns-clause-zero
returns-clause-zero c = rows.slots-zero
