use Rattle.std.proofs.Common.{◌∙◌, subst, sym, ap, arith}
use Rattle.clone_pool.specs.declared.orders.Orders.{Orders}
use Rattle.clone_pool.specs.Index.{frame_number_of}
use Rattle.clone_pool.specs.Pool.{Frames, IsClaimant}
use Rattle.clone_pool.proofs.PoolLemmas.{claimant_is}
use Rattle.clone_pool.proofs.pool.Pool.claimant.Goals as goal

pub overflow_cast-result : goal.overflow_cast-result
overflow_cast-result c =
    let i = c.self.inside in
    let v : Frames = record { frames = i.frames.items; uses = i.uses; missed = i.missed } in
    let is = claimant_is v c.args.name c.in-Some.at (ap (λ (o : Orders). frame_number_of c.args.name o.names) (sym c.self.invariant.orders_is) ∙ sym c.in-Some.ensures) in
    omega (arith, is.within, c.self.invariant.pool.count)

pub returns-in-Some-clause-claims : goal.returns-in-Some-clause-claims
returns-in-Some-clause-claims c =
    let i = c.self.inside in
    let v : Frames = record { frames = i.frames.items; uses = i.uses; missed = i.missed } in
    subst (λ (v : Frames). IsClaimant c.args.name v.frames c.in-Some.at) c.self.view_is
    (claimant_is v c.args.name c.in-Some.at (ap (λ (o : Orders). frame_number_of c.args.name o.names) (sym c.self.invariant.orders_is) ∙ sym c.in-Some.ensures))
