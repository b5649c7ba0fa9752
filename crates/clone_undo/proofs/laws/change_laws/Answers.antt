use Rattle.clone_undo.proofs.Effects as laws
use Rattle.clone_undo.proofs.laws.change_laws.Goals as goal

pub returns-clause-added : goal.returns-clause-added
returns-clause-added c = laws.changed

pub returns-clause-row : goal.returns-clause-row
returns-clause-row c = laws.changed_row

pub returns-clause-others : goal.returns-clause-others
returns-clause-others c = laws.changed_other

pub returns-clause-pages : goal.returns-clause-pages
returns-clause-pages c = laws.changed_elsewhere
