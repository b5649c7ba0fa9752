use Rattle.clone_outside.specs.Disk.{ForTold}
use Rattle.clone_outside.specs.DiskCalls.{Reads}
use Rattle.clone_increment.proofs.ReadingLemmas.{ReadsSome}
use Rattle.clone_increment.proofs.reading.read_first.Given as goal

abbrev pub invariant-loop-number : goal.invariant-loop-number
invariant-loop-number g l =
    record {
      read : ForTold (g.D.PageDisk.state l.fn.disk).told (ReadsSome l.space l.count l.number l.fn.pages l.pages);
      reads : Reads ⊥ (g.D.PageDisk.state l.fn.disk) (g.D.PageDisk.state l.disk);
    }
