use Rattle.clone_paired.proofs.RestingEnds.{rests_paired}
use Rattle.clone_paired.proofs.laws.rests_laws.Goals as goal

pub returns : goal.returns
returns g c a b session r n m number answer = rests_paired g.A.Answers.gives a b session r n m number answer
