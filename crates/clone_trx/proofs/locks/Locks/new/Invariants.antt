use Rattle.clone_trx.proofs.Common.{◌≡◌, [], ℕ, length, list_at}
use Rattle.clone_trx.proofs.locks.Locks.new.Given as goal

abbrev pub invariant-loop : goal.invariant-loop
invariant-loop l = record { count : length l.rows.items ≡ l.counter; none : (t : ℕ) → list_at l.rows.items t ≡ [] }
