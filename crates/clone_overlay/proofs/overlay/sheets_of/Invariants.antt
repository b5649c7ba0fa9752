use Rattle.std.proofs.Common.{◌≡◌, drop}
use Rattle.std.specs.FinMap as finite
use Rattle.clone_outside.specs.Disk.{ForTold}
use Rattle.clone_outside.specs.DiskCalls.{Reads}
use Rattle.clone_overlay.specs.Covers.{covers_of}
use Rattle.clone_overlay.specs.Opened.{with_spaces}
use Rattle.clone_overlay.proofs.overlay.sheets_of.Given as goal

-- what is left makes of the sheets what all spaces make of none
abbrev pub invariant-loop-space : goal.invariant-loop-space
invariant-loop-space g l =
    record {
      added : ForTold (g.D.PageDisk.state l.fn.disk).told (λ m. with_spaces m (covers_of l.sheets.entries) (drop l.space-index l.spaces) ≡ with_spaces m finite.empty l.spaces);
      reads : Reads ⊥ (g.D.PageDisk.state l.fn.disk) (g.D.PageDisk.state l.disk);
    }
