use Rattle.clone_page.proofs.Parts as laws
use Rattle.clone_page.proofs.laws.part_laws.Goals as goal

pub returns-clause-same : goal.returns-clause-same
returns-clause-same c = laws.part-put_at_same

pub returns-clause-other : goal.returns-clause-other
returns-clause-other c = laws.part-put_at_other

pub returns-clause-number : goal.returns-clause-number
returns-clause-number c = laws.field-put_at_same

pub returns-clause-own : goal.returns-clause-own
returns-clause-own c = laws.field-same

pub returns-clause-long : goal.returns-clause-long
returns-clause-long c = laws.length-put_at
