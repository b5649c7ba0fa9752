use Rattle.clone_joined.proofs.ClonedLemmas.{joined_completes}
use Rattle.clone_joined.proofs.JoinedLemmas.{joined_acts, joined_begins, joined_cuts, joined_donor, joined_strangers, joined_task}
use Rattle.clone_joined.proofs.LeftLemmas.{joined_ends}
use Rattle.clone_joined.proofs.MarkLemmas.{joined_marked}
use Rattle.clone_joined.proofs.RunLemmas.{run_begins, run_comes}
use Rattle.clone_joined.proofs.StrangerLemmas.{strangers_come}
use Rattle.clone_joined.proofs.laws.joined_laws.Goals as goal

pub returns-clause-fresh : goal.returns-clause-fresh
returns-clause-fresh c = run_begins

pub returns-clause-comes : goal.returns-clause-comes
returns-clause-comes c = run_comes

pub returns-clause-strangers_come : goal.returns-clause-strangers_come
returns-clause-strangers_come c = strangers_come

pub returns-clause-begins : goal.returns-clause-begins
returns-clause-begins c = joined_begins

pub returns-clause-acts : goal.returns-clause-acts
returns-clause-acts c number stop d t act r told n = joined_acts number r told stop d t act n

pub returns-clause-strangers : goal.returns-clause-strangers
returns-clause-strangers c number stop d t r told n at after says = joined_strangers number r told stop d t n at after says

pub returns-clause-cuts : goal.returns-clause-cuts
returns-clause-cuts c number stop d r told n connection to_donor to_task = joined_cuts number r told stop d n connection to_donor to_task

pub returns-clause-donor : goal.returns-clause-donor
returns-clause-donor c number stop d t r told n m connection answer = joined_donor number r told stop d t n m connection answer

pub returns-clause-task : goal.returns-clause-task
returns-clause-task c = joined_task

pub returns-clause-floor : goal.returns-clause-floor
returns-clause-floor c number first d r told n j = j.run.behind

pub returns-clause-marked : goal.returns-clause-marked
returns-clause-marked c = joined_marked

pub returns-clause-completes : goal.returns-clause-completes
returns-clause-completes c = joined_completes

pub returns-clause-ends : goal.returns-clause-ends
returns-clause-ends c = joined_ends
