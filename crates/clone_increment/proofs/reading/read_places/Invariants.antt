use Rattle.std.proofs.Common.{◌≡◌}
use Rattle.std.specs.FinMap as finite
use Rattle.clone_outside.specs.Disk.{ForTold}
use Rattle.clone_outside.specs.DiskCalls.{Reads}
use Rattle.clone_increment.specs.Copies.{IsQuiet, bytes_at}
use Rattle.clone_increment.specs.Readings.{AreSizesOf, all_joined}
use Rattle.clone_increment.proofs.reading.read_places.Given as goal

-- what is left makes of the pages what all places make of none
abbrev pub invariant-loop-place : goal.invariant-loop-place
invariant-loop-place g l =
    record {
      read : ForTold (g.D.PageDisk.state l.fn.disk).told
          (λ m. IsQuiet m → AreSizesOf l.sizes m → all_joined (bytes_at m) l.pages l.place-iterator ≡ all_joined (bytes_at m) finite.empty l.places.keys);
      reads : Reads ⊥ (g.D.PageDisk.state l.fn.disk) (g.D.PageDisk.state l.disk);
    }
