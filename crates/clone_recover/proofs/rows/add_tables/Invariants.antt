use Rattle.clone_outside.specs.DiskCalls.{Reads}
use Rattle.clone_recover.proofs.RowListLemmas.{AddsEntries}
use Rattle.clone_recover.proofs.rows.add_tables.Given as goal

-- the rows of the entries so far
abbrev pub invariant-loop-entry_number : goal.invariant-loop-entry_number
invariant-loop-entry_number g l =
    record {
      added : AddsEntries (g.R.PageDisk.state l.fn.disk).told l.entry_number l.system l.fn.tables l.tables;
      reads : Reads ⊥ (g.R.PageDisk.state l.fn.disk) (g.R.PageDisk.state l.disk);
    }
