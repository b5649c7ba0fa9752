use Rattle.clone_hub.proofs.GatherLemmas.{gathered_run, gathers_more, gathers_none, gathers_one, gathers_own}
use Rattle.clone_hub.proofs.laws.gather_laws.Goals as goal

pub returns-clause-none : goal.returns-clause-none
returns-clause-none g c = λ h. gathers_none h

pub returns-clause-own : goal.returns-clause-own
returns-clause-own g c = λ h k made same makes. gathers_own h k made same makes

pub returns-clause-one : goal.returns-clause-one
returns-clause-one g c = λ h j k t cell r e parts made lent meanwhile makes taken. gathers_one h j k t cell r e parts made lent meanwhile makes taken

pub returns-clause-more : goal.returns-clause-more
returns-clause-more g c = λ h j k xs ys a b. gathers_more h j k xs ys a b

pub returns-clause-run : goal.returns-clause-run
returns-clause-run g c = λ h k parts state first gathers closed. gathered_run g.M.Machine.steps h k parts state first gathers closed
