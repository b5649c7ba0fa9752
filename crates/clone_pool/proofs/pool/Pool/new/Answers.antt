use Rattle.std.proofs.Common.{◌≡◌, ◌∙◌, List, None, replicate, ap, subst, sym, arith}
use Rattle.clone_pool.specs.declared.frame.Frame.{Frame}
use Rattle.clone_pool.specs.declared.orders.Orders.{Orders}
use Rattle.clone_pool.specs.Frames.{no_frame}
use Rattle.clone_pool.specs.Pool.{IsKept}
use Rattle.clone_pool.proofs.PoolLemmas.{made}
use Rattle.clone_pool.proofs.pool.Pool.new.Goals as goal

pub invariant_of-result : goal.invariant_of-result
invariant_of-result c =
    let whole : c.loop.counter ≡ c.args.count = omega arith in
    let frames : c.loop.frames.items ≡ replicate c.args.count no_frame = c.loop.invariant.made ∙ ap (λ n. replicate n no_frame) whole in
    let P : List Frame × Orders → Type 0 = λ t. IsKept (record { frames = t.0; uses = 0; missed = None }) t.1 in
    subst P (λ i. (sym frames i, sym c.in_ok-new.ensures i)) (made c.args.count (omega arith))
