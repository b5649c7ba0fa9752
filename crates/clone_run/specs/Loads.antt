-- What a run may be asked to do.
use Rattle.std.specs.Prelude.{◌<◌, ◌≤◌}
use Rattle.clone_base.specs.declared.limits.TheConstants.{MOST_LOSSES, MOST_TASKS, TABLE_LIMIT}
use Rattle.clone_workload.specs.declared.generator.TheConstants.{INDEX_LIMIT}
use Rattle.clone_run.specs.declared.load.Load.{Load}

-- A LOAD: there are as many tables as a donor may have, and one at least; a writer has so many
-- transactions as it can number; and there are as many tasks and losses as a clone may have
pub record IsLoad (load : Load) : Type 0 where
  pub tables : 0 < load.tables
  pub not_too_many : load.tables ≤ TABLE_LIMIT
  pub transactions : load.transactions ≤ INDEX_LIMIT
  pub some : 1 ≤ load.tasks
  pub few : load.tasks ≤ MOST_TASKS
  pub losses : load.limit ≤ MOST_LOSSES
