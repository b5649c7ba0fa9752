use Rattle.clone_core.proofs.SetLemmas.{set_not_begun, set_not_changed, set_commits}
use Rattle.clone_core.proofs.world.World.set.Goals as goal

pub returns-in_err-trx : goal.returns-in_err-trx
returns-in_err-trx g c = set_not_begun _ _ _ _ _ _ _ c.from_residual.result c.in_err-trx.ensures c.from_residual.ensures.1

pub returns-in_err-put : goal.returns-in_err-put
returns-in_err-put g c = set_not_changed _ _ _ _ _ _ _ _ _ c.from_residual-in_err-put.result c.in_ok-trx.ensures c.in_err-put.ensures c.from_residual-in_err-put.ensures.1

pub returns : goal.returns
returns g c = set_commits _ _ _ _ _ _ _ _ _ c.commit.result c.in_ok-trx.ensures c.in_ok-put.ensures c.commit.ensures
