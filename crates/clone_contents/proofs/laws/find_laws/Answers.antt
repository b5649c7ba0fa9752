use Rattle.clone_contents.proofs.FindLemmas.{slot_on, next_on, key_found, free_found}
use Rattle.clone_contents.proofs.laws.find_laws.Goals as goal

pub returns-clause-slot : goal.returns-clause-slot
returns-clause-slot c = λ image table number j page in_table there. slot_on image table number page in_table there j

pub returns-clause-bound : goal.returns-clause-bound
returns-clause-bound c = λ image table number key page found in_table there finds. key_found image table number page in_table there key found finds

pub returns-clause-free : goal.returns-clause-free
returns-clause-free c = λ image table number page found in_table there finds. free_found image table number page in_table there found finds

pub returns-clause-next : goal.returns-clause-next
returns-clause-next c = λ image table number page in_table there. next_on image table number page in_table there
