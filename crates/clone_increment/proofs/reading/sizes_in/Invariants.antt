use Rattle.std.proofs.Common.{◌≡◌, drop}
use Rattle.std.specs.FinMap as finite
use Rattle.clone_outside.specs.Disk.{ForTold, page_count}
use Rattle.clone_outside.specs.DiskCalls.{Reads}
use Rattle.clone_increment.specs.Readings.{all_joined}
use Rattle.clone_increment.proofs.reading.sizes_in.Given as goal

-- what is left makes of the sizes what all spaces make of none
abbrev pub invariant-loop-space : goal.invariant-loop-space
invariant-loop-space g l =
    record {
      added : ForTold (g.D.PageDisk.state l.fn.disk).told (λ m. all_joined (page_count m) l.sizes (drop l.space-index l.spaces) ≡ all_joined (page_count m) finite.empty l.spaces);
      reads : Reads ⊥ (g.D.PageDisk.state l.fn.disk) (g.D.PageDisk.state l.disk);
    }
