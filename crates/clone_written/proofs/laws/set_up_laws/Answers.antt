use Rattle.clone_written.proofs.SetUpLemmas.{keeps}
use Rattle.clone_written.proofs.laws.set_up_laws.Goals as goal

pub returns-clause-donor : goal.returns-clause-donor
returns-clause-donor c = λ d t is. (keeps d t is).donor

pub returns-clause-taken : goal.returns-clause-taken
returns-clause-taken c = λ d t is. (keeps d t is).taken

pub returns-clause-session : goal.returns-clause-session
returns-clause-session c = λ d t is. (keeps d t is).session

pub returns-clause-stop : goal.returns-clause-stop
returns-clause-stop c = λ d t is. (keeps d t is).stop

pub returns-clause-active : goal.returns-clause-active
returns-clause-active c = λ d t is. (keeps d t is).plain.0

pub returns-clause-binlog : goal.returns-clause-binlog
returns-clause-binlog c = λ d t is. (keeps d t is).plain.1
