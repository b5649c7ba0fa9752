use Rattle.clone_trx.proofs.Common.{◌≡◌, ap, arith, length, TRANSACTION_LIMIT, holders_of}
use Rattle.clone_trx.proofs.LockListLemmas.{none_listed}
use Rattle.clone_trx.proofs.locks.Locks.new.Goals as goal

pub invariant_of-result : goal.invariant_of-result
invariant_of-result c =
    let count : length c.loop.rows.items ≡ TRANSACTION_LIMIT = omega arith in
    none_listed (holders_of c.new-2.result.entries) c.loop.rows.items (ap holders_of c.new-2.ensures.empty) count c.loop.invariant.none
