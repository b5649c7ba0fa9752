use Rattle.std.proofs.Common.{sym}
use Rattle.clone_pool.proofs.PoolLemmas.{loader_loose}
use Rattle.clone_pool.proofs.pool.Pool.give_up_loading.Goals as goal

pub discard-requires-clause-free : goal.discard-requires-clause-free
discard-requires-clause-free c = loader_loose c.args.self.now c.laws.ensures c.args.name c.in-Some.at (sym c.in-Some.ensures.loader)
