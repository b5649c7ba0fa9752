use Rattle.std.proofs.Common.{◌≡◌, ◌-◌}
use Rattle.clone_outside.specs.DiskCalls.{Reads}
use Rattle.clone_recover.specs.Reading.{read_of, total_of, redo_length}
use Rattle.clone_recover.proofs.RedoLemmas.{ProgressOn}
use Rattle.clone_recover.proofs.redo.redo.Given as goal

abbrev pub invariant-loop-meetings : goal.invariant-loop-meetings
invariant-loop-meetings g l =
    record {
      progress : ProgressOn (g.R.PageDisk.state l.fn.disk).told l.end l.fn.overlay l.overlay l.log;
      total : total_of l.log ≡ redo_length l.end;
      reads : Reads ⊥ (g.R.PageDisk.state l.fn.disk) (g.R.PageDisk.state l.disk);
    }

abbrev pub decreases-loop-meetings : goal.decreases-loop-meetings
decreases-loop-meetings g l = total_of l.log - read_of l.log
