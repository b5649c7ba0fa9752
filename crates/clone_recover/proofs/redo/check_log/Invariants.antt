use Rattle.std.proofs.Common.{◌≡◌, ◌-◌}
use Rattle.clone_outside.specs.DiskCalls.{Reads}
use Rattle.clone_recover.specs.Reading.{read_of, total_of, redo_length}
use Rattle.clone_recover.proofs.RedoLemmas.{ReadOn}
use Rattle.clone_recover.proofs.redo.check_log.Given as goal

abbrev pub invariant-loop-log : goal.invariant-loop-log
invariant-loop-log g l =
    record {
      read : ReadOn (g.R.PageDisk.state l.fn.disk).told l.log;
      total : total_of l.log ≡ redo_length l.end;
      reads : Reads ⊥ (g.R.PageDisk.state l.fn.disk) (g.R.PageDisk.state l.disk);
    }

abbrev pub decreases-loop-log : goal.decreases-loop-log
decreases-loop-log g l = total_of l.log - read_of l.log
