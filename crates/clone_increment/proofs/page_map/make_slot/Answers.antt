use Rattle.std.proofs.Common.{ℕ, List, subst, sym}
use Rattle.std.specs.declared.option.Option.{Option}
use Rattle.std.specs.BTreeMap.{Updates}
use Rattle.clone_model.specs.Keys.{row_cmp}
use Rattle.clone_model.proofs.RowMaps.{slot_only, slots_stay}
use Rattle.std.specs.Prelude.{Some}
use Rattle.clone_increment.proofs.page_map.make_slot.Goals as goal

pub returns-clause-same : goal.returns-clause-same
returns-clause-same c =
    slot_only c.args.slots.now c.insert.new.self c.args.place
    (subst (λ (slot : Option (List ℕ)). Updates row_cmp c.args.slots.now c.insert.new.self c.args.place (Some slot)) c.in_ok-slot.ensures c.in_ok-insert.ensures.updates) (sym c.if-contains_key.ensures)

pub returns-clause-others : goal.returns-clause-others
returns-clause-others c = slots_stay c.args.slots.now c.insert.new.self _ _ c.in_ok-insert.ensures.updates
