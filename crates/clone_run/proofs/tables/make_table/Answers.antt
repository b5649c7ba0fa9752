use Rattle.clone_run.proofs.TableLemmas.{set_more, stops_later}
use Rattle.clone_run.proofs.tables.make_table.Goals as goal

pub returns-in-Some-try_table-clause-sets_up : goal.returns-in-Some-try_table-clause-sets_up
returns-in-Some-try_table-clause-sets_up g c = set_more _ _ _ c.loop.invariant.2 c.try_table.ensures.sets_up

pub loop-preserved : goal.loop-preserved
loop-preserved g c = (tt, tt, set_more _ _ _ c.loop.invariant.2 c.try_table.ensures.sets_up)

pub returns-in-Some-try_table-clause-why : goal.returns-in-Some-try_table-clause-why
returns-in-Some-try_table-clause-why g c = stops_later _ _ _ _ c.loop.invariant.2 c.in-Some-try_table.ensures.why
