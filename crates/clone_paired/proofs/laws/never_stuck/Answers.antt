use Rattle.clone_paired.proofs.Stuck.{some_moves}
use Rattle.clone_paired.proofs.laws.never_stuck.Goals as goal

pub returns : goal.returns
returns g c a session r d n = some_moves g.A.Answers.gives a session r d n
