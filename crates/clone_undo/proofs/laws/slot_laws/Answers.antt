use Rattle.clone_undo.proofs.Effects as laws
use Rattle.clone_undo.proofs.laws.slot_laws.Goals as goal

pub returns-clause-own : goal.returns-clause-own
returns-clause-own c = laws.own

pub returns-clause-count : goal.returns-clause-count
returns-clause-count c = laws.counted

pub returns-clause-last : goal.returns-clause-last
returns-clause-last c = laws.last_is

pub returns-clause-unused : goal.returns-clause-unused
returns-clause-unused c = laws.next_is_first
