use Rattle.std.proofs.Common.{drop}
use Rattle.clone_overlay.specs.Covers.{covers_of}
use Rattle.clone_outside.specs.DiskCalls.{Alters}
use Rattle.clone_recover.specs.Written.{without_space}
use Rattle.clone_recover.proofs.Loops.{Left}
use Rattle.clone_recover.proofs.writing.remove_gone.Given as goal

abbrev pub invariant-loop-space : goal.invariant-loop-space
invariant-loop-space g l =
    record {
      left : Left (without_space (covers_of l.sheets.entries)) (g.R.PageDisk.state l.fn.disk).told (g.R.PageDisk.state l.disk).told (drop l.space-index l.spaces) l.spaces;
      works : Alters ⊥ (g.R.PageDisk.state l.fn.disk) (g.R.PageDisk.state l.disk);
    }
