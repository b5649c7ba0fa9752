use Rattle.clone_task_jobs.proofs.FetchLemmas.{halts_one}
use Rattle.clone_task_jobs.proofs.fetching.halt.Goals as goal

pub returns : goal.returns
returns g c = halts_one c.args.watch.now c.call-halted.new.self c.call-halted.result c.call-halted.ensures
