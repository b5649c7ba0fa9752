use Rattle.clone_page.proofs.Parts as laws
use Rattle.clone_page.proofs.laws.slot_laws.Goals as goal

pub returns-clause-same : goal.returns-clause-same
returns-clause-same c = laws.slot-put_same

pub returns-clause-other : goal.returns-clause-other
returns-clause-other c = laws.slot-put_other

pub returns-clause-lsn : goal.returns-clause-lsn
returns-clause-lsn c = laws.slot-with_lsn

pub returns-clause-made : goal.returns-clause-made
returns-clause-made c = λ j space number lsn kind. laws.slot-initialised j space number kind lsn

pub returns-clause-unused : goal.returns-clause-unused
returns-clause-unused c = laws.slot-zero

pub returns-clause-present : goal.returns-clause-present
returns-clause-present c = laws.row_of-present_slot

pub returns-clause-never : goal.returns-clause-never
returns-clause-never c = laws.row_of-unused
