use Rattle.clone_snapshot.specs.StageLists.{Files}
use Rattle.clone_marks.specs.Counts.{pairs_of}
use Rattle.clone_marks.proofs.RunLemmas.{begun_marks}
use Rattle.clone_marks.proofs.marks.Marks.of_files.Goals as goal

pub invariant_of-result : goal.invariant_of-result
invariant_of-result c = rw (c.in_ok-push_spaces.ensures, c.new-chunks.ensures.items) (begun_marks (Files (pairs_of c.args.spaces.now)) c.requires)
