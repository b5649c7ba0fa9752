use Rattle.clone_trx.proofs.Common.{◌≡◌, sym, ap, subst, arith, nat_cmp, len-empty, Commit, no_donor, donor_of, IsSafe}
use Rattle.std.specs.FinMap as finite
use Rattle.clone_trx.proofs.SafeLemmas.{no_safe}
use Rattle.clone_trx.proofs.transactions.Transactions.new.Goals as goal

pub invariant_of-result : goal.invariant_of-result
invariant_of-result c =
    let made : donor_of c.new.result c.new-2.result c.in_ok-new.field-0 c.new-4.result.commits c.new-5.result.list ≡ no_donor = λ i. donor_of (c.new.ensures i) (c.new-2.ensures i) (c.in_ok-new.ensures i) (c.new-4.ensures i) (c.new-5.ensures i) in
    (subst IsSafe (sym made) no_safe, omega (arith, ap finite.len c.new-2.ensures, len-empty nat_cmp Commit))
