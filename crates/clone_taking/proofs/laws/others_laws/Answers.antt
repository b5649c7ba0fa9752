use Rattle.clone_copying.specs.Watching.{HasLooked}
use Rattle.clone_taking.proofs.OtherLemmas.{others}
use Rattle.clone_taking.proofs.laws.others_laws.Goals as goal

pub returns : goal.returns
returns g c = λ state look position_of watch task core left ends stepped other fetches.
    others state task other (HasLooked look position_of watch) core left stepped fetches.calls
