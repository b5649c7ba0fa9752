use Rattle.clone_overlay.specs.Shown.{ShowsSame}
use Rattle.clone_outside.specs.DiskCalls.{Reads}
use Rattle.clone_recover.proofs.Counts.{FitsOn}
use Rattle.clone_recover.proofs.rollback.check_counts.Given as goal

abbrev pub invariant-loop-slot : goal.invariant-loop-slot
invariant-loop-slot g l =
    record {
      shows : ShowsSame (g.R.PageDisk.state l.fn.disk).told l.fn.overlay l.overlay;
      fits : FitsOn (g.R.PageDisk.state l.fn.disk).told l.slot l.fn.overlay;
      reads : Reads ⊥ (g.R.PageDisk.state l.fn.disk) (g.R.PageDisk.state l.disk);
    }
