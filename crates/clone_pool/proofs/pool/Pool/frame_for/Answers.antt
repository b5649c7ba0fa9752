use Rattle.std.proofs.Common.{◌∙◌, sym}
use Rattle.clone_pool.proofs.PoolLemmas.{own_frame, victim_frame}
use Rattle.clone_pool.proofs.pool.Pool.frame_for.Goals as goal

pub returns-in-Some-clause-some : goal.returns-in-Some-clause-some
returns-in-Some-clause-some c = own_frame c.args.self.now c.laws.ensures c.args.name c.in-Some.at (sym c.in-Some.ensures.loader)
