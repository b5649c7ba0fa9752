use Rattle.clone_runs.proofs.ConnectionLemmas.{in_order, in_sublist, matched_heard, matched_of}
use Rattle.clone_runs.proofs.laws.connection_laws.Goals as goal

pub returns-clause-order : goal.returns-clause-order
returns-clause-order g c = in_order

pub returns-clause-commands : goal.returns-clause-commands
returns-clause-commands g c = in_sublist

pub returns-clause-matched : goal.returns-clause-matched
returns-clause-matched g c = λ served made matched. (matched_of served made matched, matched_heard served made matched)
