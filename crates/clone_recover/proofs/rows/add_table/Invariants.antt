use Rattle.clone_outside.specs.DiskCalls.{Reads}
use Rattle.clone_recover.proofs.RowListLemmas.{AddsPages}
use Rattle.clone_recover.proofs.rows.add_table.Given as goal

-- the rows of the pages so far
abbrev pub invariant-loop-number : goal.invariant-loop-number
invariant-loop-number g l =
    record {
      added : AddsPages (g.R.PageDisk.state l.fn.disk).told l.table l.number l.fn.tables l.tables;
      reads : Reads ⊥ (g.R.PageDisk.state l.fn.disk) (g.R.PageDisk.state l.disk);
    }
