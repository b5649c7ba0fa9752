use Rattle.clone_writer.proofs.Sparing.{keeps}
use Rattle.clone_writer.proofs.laws.spared_laws.Goals as goal

pub returns-clause-keeps : goal.returns-clause-keeps
returns-clause-keeps c = keeps
