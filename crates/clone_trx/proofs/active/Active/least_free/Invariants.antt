use Rattle.clone_trx.proofs.Common.{◌≡◌, ◌-◌, not, find, range_with_len, TRANSACTION_LIMIT}
use Rattle.std.specs.FinMap as finite
use Rattle.clone_trx.proofs.active.Active.least_free.Given as goal

-- no number before this one is free
abbrev pub invariant-loop-trx : goal.invariant-loop-trx
invariant-loop-trx l =
    find (λ trx. not (finite.contains_key l.self trx)) (range_with_len 0 TRANSACTION_LIMIT)
    ≡ find (λ trx. not (finite.contains_key l.self trx)) (range_with_len l.trx-counter (TRANSACTION_LIMIT - l.trx-counter))
