use Rattle.clone_page.proofs.Parts as laws
use Rattle.clone_page.proofs.laws.dictionary_laws.Goals as goal

pub returns-clause-same : goal.returns-clause-same
returns-clause-same c = laws.entry_space-put_entry_same

pub returns-clause-other : goal.returns-clause-other
returns-clause-other c = laws.entry_space-put_entry_other

pub returns-clause-position : goal.returns-clause-position
returns-clause-position c = laws.entry_space-put_position

pub returns-clause-lsn : goal.returns-clause-lsn
returns-clause-lsn c = laws.entry_space-with_lsn

pub returns-clause-made : goal.returns-clause-made
returns-clause-made c = λ j space number lsn kind. laws.entry_space-initialised j space number kind lsn
