use Rattle.clone_trx.proofs.Common.{◌≡◌, drop, holders_of, without}
use Rattle.clone_trx.proofs.locks.remove_all.Given as goal

-- what is left to be taken out
abbrev pub invariant-loop-row : goal.invariant-loop-row
invariant-loop-row l = without (drop l.row-index l.rows) (holders_of l.holders.entries) ≡ without l.rows (holders_of l.initial.holders.entries)
