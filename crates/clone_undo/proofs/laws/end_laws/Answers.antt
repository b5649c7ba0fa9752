use Rattle.clone_undo.proofs.Effects as laws
use Rattle.clone_undo.proofs.laws.end_laws.Goals as goal

pub returns-clause-free : goal.returns-clause-free
returns-clause-free c = laws.ended

pub returns-clause-others : goal.returns-clause-others
returns-clause-others c = laws.ended_other

pub returns-clause-pages : goal.returns-clause-pages
returns-clause-pages c = laws.ended_elsewhere
