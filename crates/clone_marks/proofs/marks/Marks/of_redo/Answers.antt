use Rattle.std.proofs.Common.{sym, ap}
use Rattle.clone_snapshot.specs.StageLists.{Redo}
use Rattle.clone_marks.specs.Counts.{unmarked}
use Rattle.clone_marks.proofs.RunLemmas.{begun_marks, redo_counts, redo_few}
use Rattle.clone_marks.proofs.marks.Marks.of_redo.Goals as goal

pub invariant_of-result : goal.invariant_of-result
invariant_of-result c = rw (c.in_ok-push_run.ensures, c.new-chunks.ensures.items, ← redo_counts c.args.checkpoint c.args.lsn) (begun_marks (Redo c.args.checkpoint c.args.lsn) (redo_few c.args.checkpoint c.args.lsn c.requires.in_log))

pub returns : goal.returns
returns c = rw (c.in_ok-push_run.ensures, c.new-chunks.ensures.items) (ap unmarked (sym (redo_counts c.args.checkpoint c.args.lsn)))
