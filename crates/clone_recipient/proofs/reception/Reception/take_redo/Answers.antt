use Rattle.std.proofs.Common.{◌<◌, ◌≤◌, subst}
use Rattle.clone_base.specs.declared.limits.TheConstants.{LSN_LIMIT}
use Rattle.clone_recipient.specs.Receptions.{Reception}
use Rattle.clone_recipient.proofs.ExpectLemmas.{redo_low}
use Rattle.clone_recipient.proofs.reception.Reception.take_redo.Goals as goal

pub lay_redo-requires-clause-within : goal.lay_redo-requires-clause-within
lay_redo-requires-clause-within g c =
    redo_low c.args.self.now c.args.chunk c.args.block c.args.from c.args.bytes.now c.requires.fits c.requires.some
    (subst (λ (r : Reception). r.checkpoint ≤ r.lsn) c.self.view_is c.self.inside.end.ordered)
    (subst (λ (r : Reception). r.lsn < LSN_LIMIT) c.self.view_is c.self.inside.end.within)
