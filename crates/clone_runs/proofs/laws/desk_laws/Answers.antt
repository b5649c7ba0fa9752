use Rattle.clone_runs.proofs.DeskLemmas.{handed_ascends, paired_ascends}
use Rattle.clone_runs.proofs.laws.desk_laws.Goals as goal

pub returns-clause-handed : goal.returns-clause-handed
returns-clause-handed c = handed_ascends

pub returns-clause-paired : goal.returns-clause-paired
returns-clause-paired c = paired_ascends
