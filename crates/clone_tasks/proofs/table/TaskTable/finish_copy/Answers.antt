use Rattle.clone_tasks.proofs.StandLemmas.{all_begin}
use Rattle.clone_tasks.proofs.table.TaskTable.finish_copy.Goals as goal

pub invariant_of-self : goal.invariant_of-self
invariant_of-self c = (c.self.invariant.0, rw c.begin.ensures (all_begin c.self.inside.standings c.self.inside.marks c.self.inside.marks c.self.invariant.1))
