use Rattle.clone_events.specs.Events.{to_donor, to_recipient}
use Rattle.clone_core.proofs.FaultLemmas.{recipient_met}
use Rattle.clone_core.proofs.OrderLemmas.{run_orders}
use Rattle.clone_core.proofs.RunLemmas.{plain_breaks, plain_run, run_fault, run_tells, run_within}
use Rattle.clone_core.proofs.laws.run_laws.Goals as goal

pub returns-clause-plain : goal.returns-clause-plain
returns-clause-plain c = plain_run

pub returns-clause-breaks : goal.returns-clause-breaks
returns-clause-breaks c = plain_breaks

pub returns-clause-within : goal.returns-clause-within
returns-clause-within c = run_within

pub returns-clause-donor_orders : goal.returns-clause-donor_orders
returns-clause-donor_orders c = run_orders to_donor

pub returns-clause-recipient_orders : goal.returns-clause-recipient_orders
returns-clause-recipient_orders c = run_orders to_recipient

pub returns-clause-tells : goal.returns-clause-tells
returns-clause-tells c = run_tells

pub returns-clause-recipient_fault : goal.returns-clause-recipient_fault
returns-clause-recipient_fault c config terms s lines events t new run is = run_fault config terms s lines events t new run (recipient_met t.clone is)
