use Rattle.clone_model.proofs.SlotOrderLemmas.{wrote_present}
use Rattle.clone_model.proofs.tables.rows_of.Goals as goal

pub returns : goal.returns
returns c =
    wrote_present _ _ c.args.slots.now.entries c.loop-table.invariant c.in-None.ensures.steps.0 c.into_iter-table-iterator.ensures.into_iter_gives.5
