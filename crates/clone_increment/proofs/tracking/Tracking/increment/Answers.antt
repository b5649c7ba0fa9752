use Rattle.std.proofs.Common.{◌∙◌, Err, ap, arith, is_some}
use Rattle.clone_outside.proofs.DiskCallLemmas.{weaker}
use Rattle.clone_increment.proofs.RefusalLemmas.{disk_failed, increment_refused}
use Rattle.clone_increment.proofs.tracking.Tracking.increment.Goals as goal

pub returns-in_err-increment-clause-reads : goal.returns-in_err-increment-clause-reads
returns-in_err-increment-clause-reads g c = weaker c.take.ensures.asks (λ e. c.in_err-increment.was ∙ ap (λ w. Err w) (disk_failed c.from_residual.result _ c.from_residual.ensures.1 e))
