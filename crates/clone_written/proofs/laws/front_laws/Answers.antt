use Rattle.clone_written.proofs.FrontLemmas.{has_front}
use Rattle.clone_written.proofs.laws.front_laws.Goals as goal

pub returns : goal.returns
returns c = λ load d was n has is. has_front load d was n is has
