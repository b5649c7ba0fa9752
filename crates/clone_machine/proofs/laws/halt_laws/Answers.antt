use Rattle.clone_machine.proofs.RunLemmas.{still_halted}
use Rattle.clone_machine.proofs.laws.halt_laws.Goals as goal

pub returns : goal.returns
returns c = still_halted
