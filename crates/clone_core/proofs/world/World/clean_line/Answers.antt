use Rattle.std.proofs.Common.{string_bytes}
use Rattle.clone_core.proofs.CleanLemmas.{clean_answers, clean_breaks, stop_answers, stop_breaks}
use Rattle.clone_core.proofs.world.World.clean_line.Goals as goal

pub returns-in-Ok-clause-ok : goal.returns-in-Ok-clause-ok
returns-in-Ok-clause-ok g c = clean_answers string_bytes _ _ _ c.format.result c.in-Ok.ensures c.format.ensures.ok

pub returns-in-Ok-clause-err : goal.returns-in-Ok-clause-err
returns-in-Ok-clause-err g c = clean_breaks _ _ _ c.format.result c.in-Ok.ensures

pub returns-in-Err-clause-ok : goal.returns-in-Err-clause-ok
returns-in-Err-clause-ok g c = stop_answers string_bytes _ _ _ c.refused.result c.in-Err.ensures c.refused.ensures

pub returns-in-Err-clause-err : goal.returns-in-Err-clause-err
returns-in-Err-clause-err g c = stop_breaks _ _ _ c.refused.result c.in-Err.ensures
