use Rattle.std.proofs.Common.{◌≡◌, ◌<◌, ◌∙◌, List, length, take, subst, arith}
use Rattle.std.proofs.lemmas.List.{length-take, take_all}
use Rattle.std.proofs.lemmas.Grind.{get_or_default_zero}
use Rattle.clone_model.specs.declared.change.Commit.{Commit}
use Rattle.clone_summary.proofs.CountLemmas.{AreCounted, all_counted, counted_other, counted_own, few_counted}
use Rattle.clone_summary.proofs.counts.commit_counts.Goals as goal
use Rattle.clone_summary.proofs.counts.commit_counts.Goals.{then-commit-writers, else-commit-writers}

pub overflow_add-index_mut : goal.overflow_add-index_mut
overflow_add-index_mut c =
    let commits = c.as_slice-commit-items.result.now in
    let writer = c.commit-item.result.writer in
    let counts = c.loop-commit.counts.items in
    let few = few_counted c.args.writers (take c.loop-commit.commit-index commits) counts writer c.if-commit-writers.true c.loop-commit.invariant in
    let inside : writer < length counts = omega (arith, c.loop-commit.invariant.size, c.if-commit-writers.true) in
    let is = c.index_mut.ensures.value ∙ get_or_default_zero counts writer _ inside in
    omega (arith, few, is, length-take c.loop-commit.commit-index commits)

pub loop-commit-preserved : goal.loop-commit-preserved
loop-commit-preserved c =
    let commits = c.as_slice-commit-items.result.now in
    let i = c.loop-commit.commit-index in
    elim c.if-commit-writers.branch [
      | then-commit-writers w ↦ rw w.counts-is (counted_own c.args.writers commits c.loop-commit.counts.items i c.commit-item.result w.index_mut.result.now c.loop-commit-test.true c.commit-item.is w.if-commit-writers.true w.index_mut.ensures.value c.loop-commit.invariant)
      | else-commit-writers w ↦ rw w.counts-is (counted_other c.args.writers commits c.loop-commit.counts.items i c.commit-item.result c.loop-commit-test.true c.commit-item.is w.if-commit-writers.false c.loop-commit.invariant)
    ]

pub returns : goal.returns
returns c =
    let commits = c.as_slice-commit-items.result.now in
    let counts = c.loop-commit.counts.items in
    let whole : take c.loop-commit.commit-index commits ≡ c.args.binlog.now.commits = take_all c.loop-commit.commit-index commits c.loop-commit-test.false ∙ c.as_slice-commit-items.ensures in
    let P : List Commit → Type 0 = λ l. AreCounted c.args.writers l counts in
    all_counted c.args.writers c.args.binlog.now.commits counts (subst P whole c.loop-commit.invariant)
