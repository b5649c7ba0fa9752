use Rattle.std.proofs.Common.{◌≡◌, ◌+◌, ◌-◌, arith, sym, ap, ◌∙◌}
use Rattle.std.proofs.lemmas.Grind.{common_steps}
use borrow.Rule.Slice.PartMut.{mid_of}
use Rattle.clone_page.specs.Slots.{slot}
use Rattle.clone_row.specs.Slots.{slot_of}
use Rattle.clone_row.proofs.Rows.{slot_in-slots}
use Rattle.clone_row.proofs.slots.slot_bytes.Goals as goal

pub returns-clause-slot : goal.returns-clause-slot
returns-clause-slot c =
    let bytes : mid_of c.slot_offset-at.result (c.slot_offset-at.result + 80 - c.slot_offset-at.result) c.bytes.result.now ≡ slot c.args.slot_number c.args.page.now = grind (arith, common_steps) in
    ap slot_of bytes ∙ sym (slot_in-slots c.args.slot_number c.args.page.now c.requires)
