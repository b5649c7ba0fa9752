use Rattle.clone_increment.proofs.IncrementLemmas.{all_restored, image_applied}
use Rattle.clone_increment.proofs.laws.increment_laws.Goals as goal

pub returns-clause-one : goal.returns-clause-one
returns-clause-one c = image_applied

pub returns-clause-all : goal.returns-clause-all
returns-clause-all c = all_restored
