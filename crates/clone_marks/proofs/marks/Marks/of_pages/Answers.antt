use Rattle.std.proofs.Common.{sym, ap}
use Rattle.clone_marks.specs.Counts.{counted_pages, unmarked}
use Rattle.clone_marks.proofs.RunLemmas.{begun_marks, counted_counts, counted_few}
use Rattle.clone_marks.proofs.marks.Marks.of_pages.Goals as goal

pub invariant_of-result : goal.invariant_of-result
invariant_of-result c = rw (c.in_ok-push_run.ensures, c.new-chunks.ensures.items, ← counted_counts c.args.pages) (begun_marks (counted_pages c.args.pages) (counted_few c.args.pages c.requires))

pub returns : goal.returns
returns c = rw (c.in_ok-push_run.ensures, c.new-chunks.ensures.items) (ap unmarked (sym (counted_counts c.args.pages)))
