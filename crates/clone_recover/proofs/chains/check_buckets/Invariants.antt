use Rattle.clone_outside.specs.DiskCalls.{Reads}
use Rattle.clone_recover.proofs.TableLemmas.{TestedOn}
use Rattle.clone_recover.proofs.chains.check_buckets.Given as goal

abbrev pub invariant-loop-bucket : goal.invariant-loop-bucket
invariant-loop-bucket g l =
    record {
      tested : TestedOn (g.R.PageDisk.state l.fn.disk).told l.overlay l.table l.bucket l.initial.stamps l.stamps;
      reads : Reads ⊥ (g.R.PageDisk.state l.fn.disk) (g.R.PageDisk.state l.disk);
    }
