use Rattle.clone_outside.specs.DiskCalls.{Reads}
use Rattle.clone_recover.proofs.DiskUndoLemmas.{HalfwayOn}
use Rattle.clone_recover.proofs.rollback.undo_changes.Given as goal

abbrev pub invariant-loop-number : goal.invariant-loop-number
invariant-loop-number g l =
    record {
      half : HalfwayOn (g.R.PageDisk.state l.fn.disk).told l.slot l.count l.number l.fn.overlay l.overlay;
      reads : Reads ⊥ (g.R.PageDisk.state l.fn.disk) (g.R.PageDisk.state l.disk);
    }
