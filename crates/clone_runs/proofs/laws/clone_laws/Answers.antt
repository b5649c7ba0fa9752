use Rattle.clone_runs.proofs.CloneLemmas.{answered, opened}
use Rattle.clone_runs.proofs.MemberLemmas.{from_jobs, to_job}
use Rattle.clone_runs.proofs.laws.clone_laws.Goals as goal

pub returns-clause-answered : goal.returns-clause-answered
returns-clause-answered g c = λ r tasks run. answered r run tasks

pub returns-clause-once : goal.returns-clause-once
returns-clause-once g c = opened

pub returns-clause-to_job : goal.returns-clause-to_job
returns-clause-to_job g c = to_job

pub returns-clause-from_jobs : goal.returns-clause-from_jobs
returns-clause-from_jobs g c = from_jobs
