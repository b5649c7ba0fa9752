use Rattle.clone_page.proofs.Parts as laws
use Rattle.clone_page.proofs.laws.header_laws.Goals as goal

pub returns-clause-made : goal.returns-clause-made
returns-clause-made c = λ space number lsn kind. laws.well_formed-initialised space number kind lsn

pub returns-clause-kind : goal.returns-clause-kind
returns-clause-kind c = λ space number lsn kind. laws.kind_of-initialised space number kind lsn

pub returns-clause-lsn : goal.returns-clause-lsn
returns-clause-lsn c = laws.lsn_of-with_lsn

pub returns-clause-written : goal.returns-clause-written
returns-clause-written c = laws.well_formed-put_allowed

pub returns-clause-stamped : goal.returns-clause-stamped
returns-clause-stamped c = laws.well_formed-with_lsn
