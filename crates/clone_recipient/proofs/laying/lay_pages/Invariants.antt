use Rattle.std.proofs.Common.{take}
use Rattle.clone_outside.specs.Disk.{ForTold, Steps}
use Rattle.clone_outside.specs.DiskCalls.{Alters}
use Rattle.clone_lay.specs.Laid.{laid_pages}
use Rattle.clone_lay.specs.Sized.{AreSizes}
use Rattle.clone_recipient.specs.Taking.{laid_at}
use Rattle.clone_recipient.proofs.laying.lay_pages.Given as goal

abbrev pub invariant-loop-page : goal.invariant-loop-page
invariant-loop-page g l =
    record {
      laid : Steps (g.R.PageDisk.state l.fn.disk).told (g.R.PageDisk.state l.disk).told (laid_pages (laid_at (take l.page-index l.pages)));
      sizes : ForTold (g.R.PageDisk.state l.disk).told (AreSizes l.sizes);
      works : Alters ⊥ (g.R.PageDisk.state l.fn.disk) (g.R.PageDisk.state l.disk);
    }
