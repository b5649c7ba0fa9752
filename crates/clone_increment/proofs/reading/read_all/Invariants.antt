use Rattle.std.proofs.Common.{take}
use Rattle.clone_outside.specs.Disk.{ForTold}
use Rattle.clone_outside.specs.DiskCalls.{Reads}
use Rattle.clone_increment.proofs.ReadingLemmas.{ReadsNamed}
use Rattle.clone_increment.proofs.reading.read_all.Given as goal

abbrev pub invariant-loop-entry : goal.invariant-loop-entry
invariant-loop-entry g l =
    record {
      read : ForTold (g.D.PageDisk.state l.fn.disk).told (ReadsNamed l.sizes (take l.entry-index l.entry-items) l.pages);
      reads : Reads ⊥ (g.D.PageDisk.state l.fn.disk) (g.D.PageDisk.state l.disk);
    }
