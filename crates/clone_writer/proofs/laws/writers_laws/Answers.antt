use Rattle.clone_writer.proofs.Numbers.{keeps_of}
use Rattle.clone_writer.proofs.laws.writers_laws.Goals as goal

pub returns : goal.returns
returns c = λ numbers d after call given all own is. keeps_of numbers d after all call given own is
