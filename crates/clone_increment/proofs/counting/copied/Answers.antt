use Rattle.std.proofs.Common.{◌∙◌, drop}
use Rattle.std.proofs.lemmas.List.{drop_all}
use Rattle.clone_increment.proofs.CountLemmas.{counted_same}
use Rattle.clone_increment.proofs.counting.copied.Goals as goal

pub returns : goal.returns
returns c =
    let list = c.deref-entry-items.result.now in
    counted_same c.args.counts.now c.loop-entry.copy list (drop c.loop-entry.entry-index list) c.loop-entry.invariant (drop_all _ list c.loop-entry-test.false) (c.deref-entry-items.ensures.value ∙ c.in_ok-list.ensures)
