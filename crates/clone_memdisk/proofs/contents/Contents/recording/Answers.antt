use Rattle.clone_memdisk.proofs.ContainedLemmas.{kept_fresh}
use Rattle.clone_memdisk.proofs.contents.Contents.recording.Goals as goal

pub invariant_of-result : goal.invariant_of-result
invariant_of-result c = kept_fresh _ _ c.blank.ensures c.new.ensures
