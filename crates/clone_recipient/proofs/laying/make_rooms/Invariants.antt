use Rattle.std.proofs.Common.{take}
use Rattle.clone_outside.specs.Disk.{ForTold, Steps}
use Rattle.clone_outside.specs.DiskCalls.{Alters}
use Rattle.clone_lay.specs.Sized.{AreSizes}
use Rattle.clone_accepted.specs.Disk.{with_rooms}
use Rattle.clone_marks.specs.Counts.{pairs_of}
use Rattle.clone_recipient.proofs.laying.make_rooms.Given as goal

abbrev pub invariant-loop-space : goal.invariant-loop-space
invariant-loop-space g l =
    record {
      made : Steps (g.R.PageDisk.state l.fn.disk).told (g.R.PageDisk.state l.disk).told (with_rooms (pairs_of (take l.space-index l.spaces)));
      sizes : ForTold (g.R.PageDisk.state l.disk).told (AreSizes l.sizes);
      works : Alters ⊥ (g.R.PageDisk.state l.fn.disk) (g.R.PageDisk.state l.disk);
    }
