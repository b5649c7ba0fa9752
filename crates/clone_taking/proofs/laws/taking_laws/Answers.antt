use Rattle.clone_copying.specs.Watching.{HasLooked}
use Rattle.clone_taking.proofs.TakingLemmas.{takes_task}
use Rattle.clone_taking.proofs.laws.taking_laws.Goals as goal

pub returns : goal.returns
returns g c = λ state look position_of watch task core left ends asked stepped.
    takes_task c.settled_laws.ensures.sent c.settled_laws.ensures.taken g.L.Link state (HasLooked look position_of watch) task core left ends asked stepped
