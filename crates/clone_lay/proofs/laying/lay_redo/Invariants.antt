use Rattle.std.proofs.Common.{is_some, ◌≡◌, ◌≤◌}
use Rattle.clone_base.specs.declared.limits.TheConstants.{REDO_SPACE}
use Rattle.clone_outside.specs.Disk.{ForTold, IsSameBut}
use Rattle.clone_outside.specs.Stops.{Keeps}
use Rattle.clone_lay.specs.Sized.{AreSizes}
use Rattle.clone_lay.proofs.RedoLemmas.{HasPages}
use Rattle.clone_lay.proofs.laying.lay_redo.Given as goal

abbrev pub invariant-loop-number : goal.invariant-loop-number
invariant-loop-number g l =
    record {
      laid : HasPages l.bytes l.first (g.R.PageDisk.state l.fn.disk).told l.number (g.R.PageDisk.state l.disk).told;
      sizes : ForTold (g.R.PageDisk.state l.disk).told (AreSizes l.sizes);
      later : (g.R.PageDisk.state l.fn.disk).failures ≤ (g.R.PageDisk.state l.disk).failures;
      tells : is_some (g.R.PageDisk.state l.disk).told ≡ is_some (g.R.PageDisk.state l.fn.disk).told;
      orders : (g.R.PageDisk.state l.disk).orders ≡ (g.R.PageDisk.state l.fn.disk).orders;
      stops : Keeps (IsSameBut REDO_SPACE) (g.R.PageDisk.state l.fn.disk).stops (g.R.PageDisk.state l.disk).stops;
    }
