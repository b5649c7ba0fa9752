use Rattle.clone_talk.proofs.TaskTalks.{begins_talk, cuts_talk, ends_talk, task_talks}
use Rattle.clone_talk.proofs.laws.talk_laws.Goals as goal

pub returns-clause-begins : goal.returns-clause-begins
returns-clause-begins c = begins_talk

pub returns-clause-cuts : goal.returns-clause-cuts
returns-clause-cuts c = cuts_talk

pub returns-clause-task : goal.returns-clause-task
returns-clause-task c = task_talks

pub returns-clause-ends : goal.returns-clause-ends
returns-clause-ends c = ends_talk
