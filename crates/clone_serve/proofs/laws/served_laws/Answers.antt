use Rattle.clone_serve.proofs.ServedLemmas as served
use Rattle.clone_serve.proofs.laws.served_laws.Goals as goal

pub returns-clause-new : goal.returns-clause-new
returns-clause-new c = served.new

pub returns-clause-comes : goal.returns-clause-comes
returns-clause-comes c = served.comes

pub returns-clause-begins : goal.returns-clause-begins
returns-clause-begins c = served.begins

pub returns-clause-goes_on : goal.returns-clause-goes_on
returns-clause-goes_on c = served.goes_on

pub returns-clause-asks : goal.returns-clause-asks
returns-clause-asks c = served.asks_again
