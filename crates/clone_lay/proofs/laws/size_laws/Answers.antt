use Rattle.clone_lay.proofs.SizeLemmas.{no_sizes, none_listed}
use Rattle.clone_lay.proofs.laws.size_laws.Goals as goal

pub returns : goal.returns
returns c = record { blank = no_sizes; listed = λ m none. no_sizes m (none_listed m none) }
