use Rattle.std.proofs.Common.{[]}
use Rattle.clone_plain.specs.declared.call.EngineCall.TheVariants as asked
use Rattle.clone_jobs.proofs.UpkeepLemmas.{last_ok, one_made}
use Rattle.clone_jobs.proofs.upkeep.checkpoint.Goals as goal

pub returns-clause-made : goal.returns-clause-made
returns-clause-made g c =
    one_made c.args.seat.now c.engine-taken.new.seat asked.Checkpoint [] c.engine-taken.result c.stop_of.result (last_ok c.engine-taken.result) c.stop_of.ensures c.engine-taken.ensures.said
