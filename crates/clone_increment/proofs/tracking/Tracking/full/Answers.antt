use Rattle.std.proofs.Common.{◌∙◌, Err, ap, arith}
use Rattle.clone_outside.proofs.DiskCallLemmas.{weaker}
use Rattle.clone_increment.proofs.RefusalLemmas.{disk_failed, full_refused}
use Rattle.clone_increment.proofs.tracking.Tracking.full.Goals as goal

pub returns-in_err-backup-clause-err : goal.returns-in_err-backup-clause-err
returns-in_err-backup-clause-err g c = full_refused c.args.writes c.from_residual.result _ (omega (arith, c.if-writes-ne0.false)) c.from_residual.ensures.1

pub returns-in_err-backup-clause-reads : goal.returns-in_err-backup-clause-reads
returns-in_err-backup-clause-reads g c = weaker c.copied.ensures.asks (λ e. c.in_err-backup.was ∙ ap (λ w. Err w) (disk_failed c.from_residual.result _ c.from_residual.ensures.1 e))
