-- The changes so far and those of the words that are left are the transaction.
use Rattle.std.proofs.Common.{◌≡◌, ◌++◌, ◌-◌}
use Rattle.clone_workload.specs.Transactions.{changes, generated}
use Rattle.clone_workload.proofs.generator.generated.Given as goal

abbrev pub invariant-changes : goal.invariant-changes
invariant-changes l =
    l.changes ++ changes l.fn.tables (l.count - l._i) l.words
    ≡ generated l.fn.seed l.fn.writer l.fn.index l.fn.tables
