use Rattle.clone_snapshot.proofs.EachBlock.{pages_listed, pages_of_one_space, redo_alone, redo_between}
use Rattle.clone_snapshot.proofs.laws.blocks_lie_within.Goals as goal

pub returns-clause-pages : goal.returns-clause-pages
returns-clause-pages c = pages_listed

pub returns-clause-redo : goal.returns-clause-redo
returns-clause-redo c = redo_between

pub returns-clause-files : goal.returns-clause-files
returns-clause-files c = pages_of_one_space

pub returns-clause-kind : goal.returns-clause-kind
returns-clause-kind c = redo_alone
