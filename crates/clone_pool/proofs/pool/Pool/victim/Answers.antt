use Rattle.std.proofs.Common.{subst}
use Rattle.clone_pool.specs.Pool.{Frames, AreKept, IsVictim}
use Rattle.clone_pool.proofs.OrderLemmas.{is_victim, none_may_go}
use Rattle.clone_pool.proofs.pool.Pool.victim.Goals as goal

pub returns-in-Some-clause-some : goal.returns-in-Some-clause-some
returns-in-Some-clause-some c = subst (λ (v : Frames). IsVictim v.frames c.in-Some.at) c.self.view_is (is_victim _ _ c.self.invariant c.in-Some.at c.in-Some.ensures.some)

pub returns-in-None-clause-none : goal.returns-in-None-clause-none
returns-in-None-clause-none c = subst (λ (v : Frames). AreKept v.frames) c.self.view_is (none_may_go _ _ c.self.invariant c.in-None.ensures.none)
