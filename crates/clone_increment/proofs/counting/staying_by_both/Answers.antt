use Rattle.std.proofs.Common.{◌∙◌, ℕ, drop, min, unwrap_or}
use Rattle.std.specs.FinMap as finite
use Rattle.std.proofs.lemmas.List.{drop_all}
use Rattle.clone_increment.proofs.CountLemmas.{counted, stays_by_both}
use Rattle.clone_increment.proofs.counting.staying_by_both.Goals as goal

pub returns : goal.returns
returns c =
    let list = c.deref-entry-items.result.now in
    let f : ℕ → ℕ → ℕ = λ space count. min count (unwrap_or (finite.get c.args.first.now space) 0) in
    stays_by_both c.args.first.now c.args.second.now c.loop-entry.stay
    (counted f c.args.second.now c.loop-entry.stay list (drop c.loop-entry.entry-index list) c.loop-entry.invariant (drop_all _ list c.loop-entry-test.false) (c.deref-entry-items.ensures.value ∙ c.in_ok-list.ensures))
