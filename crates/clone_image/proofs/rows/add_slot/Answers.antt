use Rattle.std.proofs.Common.{◌∙◌, sym}
use Rattle.clone_image.proofs.RowMapLemmas.{adds_slot}
use Rattle.clone_image.proofs.rows.add_slot.Goals as goal

pub returns-in_ok-set : goal.returns-in_ok-set
returns-in_ok-set c =
    adds_slot c.args.tables.now c.set.new.self c.args.table c.args.slot_number c.args.page.now c.in-Some.key c.in-Some.value (sym c.in-Some.is ∙ c.row_at.ensures) c.in_ok-set.ensures.ok
