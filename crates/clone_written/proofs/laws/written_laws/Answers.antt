use Rattle.clone_written.proofs.CommitLemmas.{run_commits, run_commits_all}
use Rattle.clone_written.proofs.laws.written_laws.Goals as goal

pub returns-clause-commits : goal.returns-clause-commits
returns-clause-commits g c = run_commits g.L.Link

pub returns-clause-all : goal.returns-clause-all
returns-clause-all g c = run_commits_all g.L.Link
