use Rattle.clone_undo.specs.Changes.{slot_before}
use Rattle.clone_undo.proofs.Effects as laws
use Rattle.clone_undo.proofs.laws.taking_back_laws.Goals as goal

pub returns-clause-removed : goal.returns-clause-removed
returns-clause-removed c = λ lsn s slot front last pages. laws.taken_back lsn s slot front last (slot_before last) pages

pub returns-clause-row : goal.returns-clause-row
returns-clause-row c = λ lsn s n e pages. laws.taken_back_row lsn s n e (slot_before e) pages

pub returns-clause-others : goal.returns-clause-others
returns-clause-others c = λ lsn s n t e pages. laws.taken_back_other lsn s n t e (slot_before e) pages

pub returns-clause-pages : goal.returns-clause-pages
returns-clause-pages c = λ lsn s n space page e pages. laws.taken_back_elsewhere lsn s n space page e (slot_before e) pages
