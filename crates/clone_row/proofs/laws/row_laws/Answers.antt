use Rattle.std.proofs.Common.{◌∙◌, ap}
use Rattle.clone_page.specs.Slots.{slot}
use Rattle.clone_row.specs.Slots.{row_in}
use Rattle.clone_row.proofs.Rows as rows
use Rattle.clone_row.proofs.laws.row_laws.Goals as goal

pub returns-clause-count : goal.returns-clause-count
returns-clause-count c = rows.length-slots

pub returns-clause-slot : goal.returns-clause-slot
returns-clause-slot c = rows.slot_in-slots

pub returns-clause-row : goal.returns-clause-row
returns-clause-row c = λ j page within. ap row_in (rows.slot_in-slots j page within) ∙ rows.row_in-slot_of (slot j page)

pub returns-clause-image : goal.returns-clause-image
returns-clause-image c = rows.slot_of-image
