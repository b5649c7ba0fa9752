use Rattle.std.proofs.Common.{refl}
use Rattle.clone_chunk.specs.declared.copy_stage.CopyStage.TheVariants.{PageCopy}
use Rattle.clone_recipient.proofs.CountLemmas.{begun_counted}
use Rattle.clone_recipient.proofs.reception.Reception.begin_pages.Goals as goal

pub invariant_of-self-2 : goal.invariant_of-self-2
invariant_of-self-2 g c = (c.self.invariant.0, begun_counted PageCopy _ _ c.begin_stage.ensures refl c.in_ok-marks.ensures)

pub returns-clause-steps : goal.returns-clause-steps
returns-clause-steps g c = c.in_ok-make_rooms.ensures.ok
