use Rattle.clone_writer.proofs.Agreeing.{own}
use Rattle.clone_writer.proofs.laws.own_laws.Goals as goal

pub returns : goal.returns
returns c = own
