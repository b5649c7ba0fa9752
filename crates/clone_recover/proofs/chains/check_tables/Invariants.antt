use Rattle.std.proofs.Common.{◌-◌, ◌^◌}
use Rattle.clone_outside.specs.DiskCalls.{Reads}
use Rattle.clone_recover.specs.Damage.{ForImage}
use Rattle.clone_recover.proofs.TableLemmas.{AreWholeUpTo}
use Rattle.clone_recover.proofs.chains.check_tables.Given as goal

abbrev pub invariant-loop-table : goal.invariant-loop-table
invariant-loop-table g l =
    record {
      whole : ForImage (g.R.PageDisk.state l.fn.disk).told l.overlay (λ m image. AreWholeUpTo l.above l.system image);
      reads : Reads ⊥ (g.R.PageDisk.state l.fn.disk) (g.R.PageDisk.state l.disk);
    }

abbrev pub decreases-loop-table : goal.decreases-loop-table
decreases-loop-table g l = 2 ^ 32 - l.above
