use Rattle.clone_run.specs.Tables.{SetsUp}
use Rattle.clone_run.proofs.tables.make_table.Given as goal

abbrev pub invariant-loop : goal.invariant-loop
invariant-loop g l =
    (goal.iterator-loop g).can_next l.iterator' × (goal.iterator-loop g).is_finite l.iterator'
    × SetsUp l.fn.donor l.donor
