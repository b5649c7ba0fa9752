use Rattle.clone_paired.proofs.DonorServesAscend.{files_ascend, none_ascend, pages_ascend, redo_ascends}
use Rattle.clone_paired.proofs.donor_serving_laws.blocks_ascend.Goals as goal

pub returns-clause-files : goal.returns-clause-files
returns-clause-files c = files_ascend

pub returns-clause-pages : goal.returns-clause-pages
returns-clause-pages c = pages_ascend

pub returns-clause-redo : goal.returns-clause-redo
returns-clause-redo c = redo_ascends

pub returns-clause-done : goal.returns-clause-done
returns-clause-done c = none_ascend
