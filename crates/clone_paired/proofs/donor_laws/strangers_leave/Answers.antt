use Rattle.clone_paired.proofs.StrangerLeaves.{stranger_leaves, stranger_pairs}
use Rattle.clone_paired.proofs.donor_laws.strangers_leave.Goals as goal

pub returns-clause-leaves : goal.returns-clause-leaves
returns-clause-leaves c = stranger_leaves

pub returns-clause-pairs : goal.returns-clause-pairs
returns-clause-pairs c = stranger_pairs
