use Rattle.clone_outside.specs.DiskCalls.{Alters}
use Rattle.clone_recover.specs.Written.{with_whole}
use Rattle.clone_recover.proofs.Loops.{Left}
use Rattle.clone_recover.proofs.writing.write_leaves.Given as goal

abbrev pub invariant-loop-number : goal.invariant-loop-number
invariant-loop-number g l =
    record {
      left : Left (λ m e. with_whole l.space m e.0 e.1) (g.R.PageDisk.state l.fn.disk).told (g.R.PageDisk.state l.disk).told l.number-iterator l.leaves.entries;
      works : Alters ⊥ (g.R.PageDisk.state l.fn.disk) (g.R.PageDisk.state l.disk);
    }
