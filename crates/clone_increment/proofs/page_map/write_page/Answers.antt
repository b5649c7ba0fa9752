use Rattle.std.proofs.Common.{ap, sym, subst, is_some, IsSome}
use Rattle.clone_model.proofs.RowMaps.{slots_stay}
use Rattle.clone_increment.proofs.SlotLemmas.{filled}
use Rattle.clone_increment.proofs.page_map.write_page.Goals as goal

pub returns-in-Some-clause-value : goal.returns-in-Some-clause-value
returns-in-Some-clause-value c =
    let after = c.fill.new.self in
    filled c.args.slots.now (c.get_mut.follows.lender after) c.args.place c.in-Some.slot.now after c.args.page.now c.in-Some.ensures.value (c.get_mut.follows.holds after).3 c.fill.ensures

pub returns-in-Some-clause-others : goal.returns-in-Some-clause-others
returns-in-Some-clause-others c =
    let after = c.fill.new.self in
    slots_stay c.args.slots.now (c.get_mut.follows.lender after) c.args.place after ((c.get_mut.follows.holds after).3 (ap is_some (sym c.in-Some.ensures.value)))

pub returns-in_default : goal.returns-in_default
returns-in_default c = absurd (let e = subst IsSome (sym c.in_default.ensures.value) c.requires in cc)
