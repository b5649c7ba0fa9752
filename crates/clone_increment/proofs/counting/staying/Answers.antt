use Rattle.std.proofs.Common.{◌∙◌, ℕ, cond, drop}
use Rattle.std.specs.FinSet as set
use Rattle.std.proofs.lemmas.List.{drop_all}
use Rattle.clone_increment.proofs.CountLemmas.{counted}
use Rattle.clone_increment.proofs.counting.staying.Goals as goal

pub returns : goal.returns
returns c =
    let list = c.deref-entry-items.result.now in
    let f : ℕ → ℕ → ℕ = λ space size. cond (set.contains c.args.changes.now.made space) 0 size in
    counted f c.args.sizes.now c.loop-entry.stay list (drop c.loop-entry.entry-index list) c.loop-entry.invariant (drop_all _ list c.loop-entry-test.false) (c.deref-entry-items.ensures.value ∙ c.in_ok-list.ensures)
