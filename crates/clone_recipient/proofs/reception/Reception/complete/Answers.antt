use Rattle.std.proofs.Common.{refl}
use Rattle.clone_recipient.proofs.StepLemmas.{on_err}
use Rattle.clone_recipient.proofs.reception.Reception.complete.Goals as goal

pub returns-in_err-complete-clause-partial : goal.returns-in_err-complete-clause-partial
returns-in_err-complete-clause-partial g c =
    on_err c.from_residual.result (rw (← c.self.view_is) (
      record { session = c.session.result; checkpoint = c.self.inside.end.checkpoint; lsn = c.self.inside.end.lsn; position = c.self.inside.end.position; ordered = c.end-1.given.0; within = c.end-1.given.1.0 },
      record { session = c.session.ensures; checkpoint = refl; lsn = refl; position = refl },
      c.in_err-complete.ensures.partial,
    ))

pub returns-clause-mark : goal.returns-clause-mark
returns-clause-mark g c =
    rw (← c.self.view_is) (
      record { session = c.session.result; checkpoint = c.self.inside.end.checkpoint; lsn = c.self.inside.end.lsn; position = c.self.inside.end.position; ordered = c.self.inside.end.ordered; within = c.self.inside.end.within },
      record { session = c.session.ensures; checkpoint = refl; lsn = refl; position = refl },
      c.in_ok-complete.ensures.ok,
    )
