use Rattle.clone_runs.proofs.CarriedLemmas.{carried_after}
use Rattle.clone_runs.proofs.MarkLemmas.{after_run}
use Rattle.clone_runs.proofs.PhaseLemmas.{once}
use Rattle.clone_runs.proofs.laws.opened_laws.Goals as goal

pub returns-clause-carried : goal.returns-clause-carried
returns-clause-carried g c = λ inits exits opens leaves commands made apart carried after. carried_after inits exits opens leaves apart commands made after carried

pub returns-clause-run : goal.returns-clause-run
returns-clause-run g c = after_run

pub returns-clause-once : goal.returns-clause-once
returns-clause-once g c = once
