use Rattle.std.proofs.Common.{◌∙◌, ap}
use Rattle.clone_page.specs.Slots.{slot}
use Rattle.clone_row.specs.Slots.{row_in}
use Rattle.clone_row.proofs.Rows.{slot_in-slots, row_in-slot_of}
use Rattle.clone_image.proofs.rows.row_at.Goals as goal

pub returns : goal.returns
returns c = c.present.ensures ∙ ap row_in (slot_in-slots c.args.slot_number c.args.page.now c.requires) ∙ row_in-slot_of (slot c.args.slot_number c.args.page.now)
