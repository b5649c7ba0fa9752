use Rattle.clone_undo.proofs.Effects as laws
use Rattle.clone_undo.proofs.laws.begin_laws.Goals as goal

pub returns-clause-begun : goal.returns-clause-begun
returns-clause-begun c = laws.begun

pub returns-clause-others : goal.returns-clause-others
returns-clause-others c = laws.begun_other

pub returns-clause-pages : goal.returns-clause-pages
returns-clause-pages c = laws.begun_elsewhere
