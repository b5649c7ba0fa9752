use Rattle.std.proofs.Common.{refl}
use Rattle.clone_fetch.specs.declared.answer.TaskAnswer.TheVariants.{Ended}
use Rattle.clone_network.proofs.CourseLemmas.{course}
use Rattle.clone_paired.proofs.FairEnds.{ends_fairly}
use Rattle.clone_paired.proofs.laws.ends_fairly.Goals as goal

pub returns : goal.returns
returns c session r s d e n m task floor how own paired step = ends_fairly session r s d e n m task floor ((course r s d e n m task floor (Ended how) step).once how refl) how own paired step
