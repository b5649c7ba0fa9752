use Rattle.clone_outside.specs.DiskCalls.{Alters}
use Rattle.clone_recover.specs.Written.{with_sheet}
use Rattle.clone_recover.proofs.Loops.{Left}
use Rattle.clone_recover.proofs.writing.write_sheets.Given as goal

abbrev pub invariant-loop-space : goal.invariant-loop-space
invariant-loop-space g l =
    record {
      left : Left (λ m e. with_sheet m e.0 e.1) (g.R.PageDisk.state l.fn.disk).told (g.R.PageDisk.state l.disk).told l.space-iterator l.sheets.entries;
      works : Alters ⊥ (g.R.PageDisk.state l.fn.disk) (g.R.PageDisk.state l.disk);
    }
