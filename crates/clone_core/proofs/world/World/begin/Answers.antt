use Rattle.std.proofs.Common.{◌∙◌, ℕ, ap, is_some, nat_cmp}
use Rattle.clone_core.proofs.Common.{nat_cmp_total, exact_unsigned, get-set_same}
use Rattle.std.specs.FinMap as finite
use Rattle.clone_core.proofs.HoldsLemmas.{act_kept}
use Rattle.clone_core.proofs.world.World.begin.Goals as goal

-- the writer was counted
pub restore-requires : goal.restore-requires
restore-requires g c =
    let there = ap (λ (m : finite.FinMap nat_cmp ℕ). finite.get m c.args.writer) c.in_ok-begin.ensures.ok ∙ get-set_same nat_cmp_total exact_unsigned c.self.inside.begun c.args.writer _ in
    ap is_some there

pub invariant_of-self-then-is_err : goal.invariant_of-self-then-is_err
invariant_of-self-then-is_err g c = act_kept _ _ _ _ _ _ _ _ tt tt c.begin-begun.ensures.acts c.self.invariant

pub invariant_of-self-else-is_err : goal.invariant_of-self-else-is_err
invariant_of-self-else-is_err g c = act_kept _ _ _ _ _ _ _ _ tt tt c.begin-begun.ensures.acts c.self.invariant
