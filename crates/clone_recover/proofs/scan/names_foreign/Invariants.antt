use Rattle.std.proofs.Common.{length}
use Rattle.std.specs.List.{AllByRecursion}
use Rattle.clone_recover.specs.Reading.{IsOfTable}
use Rattle.clone_recover.proofs.scan.names_foreign.Given as goal

abbrev pub invariant-loop-entry : goal.invariant-loop-entry
invariant-loop-entry l =
    record {
      no : AllByRecursion IsOfTable l.records → AllByRecursion IsOfTable l.fn.records;
      yes : AllByRecursion IsOfTable l.fn.records → AllByRecursion IsOfTable l.records;
    }

abbrev pub decreases-loop-entry : goal.decreases-loop-entry
decreases-loop-entry l = length l.records
