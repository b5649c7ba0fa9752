use Rattle.std.proofs.Common.{refl}
use Rattle.clone_chunk.specs.declared.copy_stage.CopyStage.TheVariants.{RedoCopy}
use Rattle.clone_recipient.proofs.CountLemmas.{begun_counted}
use Rattle.clone_recipient.proofs.reception.Reception.begin_redo.Goals as goal

pub invariant_of-self-2 : goal.invariant_of-self-2
invariant_of-self-2 c = (c.self.invariant.0, begun_counted RedoCopy _ _ c.begin_stage.ensures refl c.in_ok-marks.ensures)
