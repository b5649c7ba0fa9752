use Rattle.clone_trx.proofs.Common.{◌≡◌, ◌-◌, find, holds_in, range_with_len, TRANSACTION_LIMIT}
use Rattle.clone_trx.proofs.locks.Locks.least_holder.Given as goal

-- no transaction before this one holds the lock of a row of the table
abbrev pub invariant-loop-trx : goal.invariant-loop-trx
invariant-loop-trx l =
    find (holds_in l.self l.table) (range_with_len 0 TRANSACTION_LIMIT)
    ≡ find (holds_in l.self l.table) (range_with_len l.trx (TRANSACTION_LIMIT - l.trx))
