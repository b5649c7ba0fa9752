use Rattle.clone_increment.proofs.NotingLemmas.{both_made, both_none, both_written, together}
use Rattle.clone_increment.proofs.laws.note_laws.Goals as goal

pub returns-clause-both : goal.returns-clause-both
returns-clause-both c = together

pub returns-clause-none : goal.returns-clause-none
returns-clause-none c = both_none

pub returns-clause-written : goal.returns-clause-written
returns-clause-written c = both_written

pub returns-clause-made : goal.returns-clause-made
returns-clause-made c = both_made
