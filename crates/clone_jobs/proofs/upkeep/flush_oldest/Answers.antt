use Rattle.std.proofs.Common.{◌∙◌, sym}
use Rattle.clone_jobs.proofs.UpkeepLemmas.{named, unnamed}
use Rattle.clone_jobs.proofs.upkeep.flush_oldest.Goals as goal

pub returns-in-Some-clause-made : goal.returns-in-Some-clause-made
returns-in-Some-clause-made g c =
    named c.args.seat.now c.engine-oldest.new.seat c.flush.new.seat (c.in-Some.space, c.in-Some.page) c.engine-oldest.result c.flush.result
    (sym c.page_in.ensures ∙ c.in-Some.is) c.engine-oldest.ensures.said c.flush.ensures.made

pub returns-in-None-clause-made : goal.returns-in-None-clause-made
returns-in-None-clause-made g c =
    unnamed c.args.seat.now c.engine-oldest.new.seat c.engine-oldest.result c.stop_of.result
    (sym c.page_in.ensures ∙ c.in-None.is) c.stop_of.ensures c.engine-oldest.ensures.said
