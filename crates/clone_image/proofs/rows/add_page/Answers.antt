use Rattle.clone_image.proofs.RowMapLemmas.{adds_kind}
use Rattle.clone_image.proofs.rows.add_page.Goals as goal

pub returns-in_ok-add_slots : goal.returns-in_ok-add_slots
returns-in_ok-add_slots c =
    adds_kind c.args.tables.now c.add_slots.new.tables c.args.table c.args.page.now (c.holds_slots.ensures.0 c.if-holds_slots.true) c.in_ok-add_slots.ensures
