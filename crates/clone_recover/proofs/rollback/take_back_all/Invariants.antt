use Rattle.clone_outside.specs.DiskCalls.{Reads}
use Rattle.clone_recover.proofs.DiskUndoLemmas.{TakingOn}
use Rattle.clone_recover.proofs.rollback.take_back_all.Given as goal

abbrev pub invariant-loop-slot : goal.invariant-loop-slot
invariant-loop-slot g l =
    record {
      taking : TakingOn (g.R.PageDisk.state l.fn.disk).told l.slot l.fn.overlay l.overlay;
      reads : Reads ⊥ (g.R.PageDisk.state l.fn.disk) (g.R.PageDisk.state l.disk);
    }
