use Rattle.std.proofs.Common.{length}
use Rattle.clone_outside.specs.DiskCalls.{Reads}
use Rattle.clone_recover.proofs.MiniTransactionLemmas.{HalfwayOn}
use Rattle.clone_recover.proofs.redo.redo_records.Given as goal

abbrev pub invariant-loop-entry : goal.invariant-loop-entry
invariant-loop-entry g l =
    record {
      half : HalfwayOn (g.R.PageDisk.state l.fn.disk).told l.lsn l.fn.overlay l.overlay l.meetings.items l.records l.fn.records;
      reads : Reads ⊥ (g.R.PageDisk.state l.fn.disk) (g.R.PageDisk.state l.disk);
    }

abbrev pub decreases-loop-entry : goal.decreases-loop-entry
decreases-loop-entry g l = length l.records
