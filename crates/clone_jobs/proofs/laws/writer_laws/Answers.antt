use Rattle.std.proofs.Common.{◌≡◌, None, subst, sym}
use Rattle.clone_writer.specs.Writers.{asked}
use Rattle.clone_jobs.specs.Said.{said_in}
use Rattle.clone_jobs.proofs.PartLemmas.{follows}
use Rattle.clone_jobs.proofs.WriterLemmas.{later}
use Rattle.clone_jobs.proofs.laws.writer_laws.Goals as goal

pub returns-clause-part : goal.returns-clause-part
returns-clause-part c = λ end w v made. follows end w v (said_in made)

pub returns-clause-stream : goal.returns-clause-stream
returns-clause-stream c = λ end w v said writes. later w said v (follows end w v said writes)

pub returns-clause-done : goal.returns-clause-done
returns-clause-done c = λ w v said writes. subst (λ x. asked x ≡ None) (sym writes.ends.2) writes.ends.0
