use Rattle.clone_jobs.proofs.WriterLemmas.{all_written}
use Rattle.clone_jobs.proofs.laws.written_laws.Goals as goal

pub returns : goal.returns
returns c = all_written
