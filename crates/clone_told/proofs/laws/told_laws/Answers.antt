use Rattle.clone_told.proofs.ToldLemmas.{told_all, told_now, told_still, told_taken}
use Rattle.clone_told.proofs.laws.told_laws.Goals as goal

pub returns-clause-tells : goal.returns-clause-tells
returns-clause-tells c = told_now

pub returns-clause-still : goal.returns-clause-still
returns-clause-still c = told_still

pub returns-clause-taken : goal.returns-clause-taken
returns-clause-taken c = told_taken

pub returns-clause-all : goal.returns-clause-all
returns-clause-all c = told_all
