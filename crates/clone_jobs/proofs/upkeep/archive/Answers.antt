use Rattle.clone_jobs.proofs.UpkeepLemmas.{archived_no, archived_ok}
use Rattle.clone_jobs.proofs.upkeep.archive.Goals as goal

pub returns-in-Ok-clause-made : goal.returns-in-Ok-clause-made
returns-in-Ok-clause-made g c = archived_ok c.args.seat.now c.archive-reached.new.seat c.archive-reached.result _ c.in-Ok.is c.archive-reached.ensures.said

pub returns-in-Err-clause-made : goal.returns-in-Err-clause-made
returns-in-Err-clause-made g c = archived_no c.args.seat.now c.archive-reached.new.seat c.archive-reached.result _ c.in-Err.is c.archive-reached.ensures.said
