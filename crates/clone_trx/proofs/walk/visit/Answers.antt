use Rattle.clone_trx.proofs.Common.{misses}
use Rattle.clone_trx.proofs.walk.visit.Goals as goal

pub returns-in-Err-clause-missed : goal.returns-in-Err-clause-missed
returns-in-Err-clause-missed g c = misses c.args.left c.args.page c.args.kept c.args.buffer.now c.hold.new.buffer c.release_kept.new.buffer c.in-Err.refusal c.in-Err.ensures.missed c.release_kept.ensures.is
