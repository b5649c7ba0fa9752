use Rattle.std.proofs.Common.{subst}
use Rattle.clone_tasks.specs.Tables.{IsBounded}
use Rattle.clone_tasks.proofs.table.TaskTable.laws.Goals as goal

pub returns : goal.returns
returns c = subst IsBounded c.self.view_is (record {
  places = c.has_places.ensures;
  tasks = c.self.invariant.0.few;
  chunks = c.laws.ensures.chunks;
  few = c.laws.ensures.few;
})
