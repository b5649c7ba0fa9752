use Rattle.clone_joined.proofs.FaultLemmas.{end_fault}
use Rattle.clone_joined.proofs.LendingLemmas.{act_lends, act_tells, end_lends, end_stops, stop_by_act}
use Rattle.clone_joined.proofs.laws.end_laws.Goals as goal

pub returns-clause-lends : goal.returns-clause-lends
returns-clause-lends c = end_lends

pub returns-clause-now : goal.returns-clause-now
returns-clause-now c = end_stops

pub returns-clause-fault : goal.returns-clause-fault
returns-clause-fault c = end_fault

pub returns-clause-acted : goal.returns-clause-acted
returns-clause-acted c = act_lends

pub returns-clause-acts_now : goal.returns-clause-acts_now
returns-clause-acts_now c = stop_by_act

pub returns-clause-told : goal.returns-clause-told
returns-clause-told c = act_tells
