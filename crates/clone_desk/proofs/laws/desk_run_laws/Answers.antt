use Rattle.clone_desk.proofs.RunLemmas.{desk_runs, run_handed, run_paired}
use Rattle.clone_desk.proofs.laws.desk_run_laws.Goals as goal

pub returns-clause-runs : goal.returns-clause-runs
returns-clause-runs g c = desk_runs g.N.Net g.N.End.Link

pub returns-clause-handed : goal.returns-clause-handed
returns-clause-handed g c = run_handed g.N.Net g.N.End.Link c.desk_laws.ensures.handed

pub returns-clause-paired : goal.returns-clause-paired
returns-clause-paired g c = run_paired g.N.Net g.N.End.Link c.desk_laws.ensures.paired
