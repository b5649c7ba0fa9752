-- What holds of a plain donor between its calls: who holds which lock, and the value that each row
-- shows.
use Rattle.std.specs.Prelude.{ℕ, ◌≡◌, ◌<◌, ◌≤◌, List, [], length, None, Some, IsSome, slice_get}
use Rattle.std.specs.declared.option.Option.{Option}
use Rattle.std.specs.List.{AllByRecursion}
use Rattle.std.specs.FinMap as finite
use Rattle.std.specs.Ordering.{nat_cmp}
use Rattle.clone_base.specs.declared.limits.TheConstants.{TRANSACTION_LIMIT, CHANGE_LIMIT}
use Rattle.clone_model.specs.History.{Rows, fold, after_changes}
use Rattle.clone_model.specs.declared.change.Change.{Change}
use Rattle.clone_model.specs.declared.change.Commit.{Commit}
use Rattle.clone_plain.specs.Donor.{Donor, history, changes_of}

-- from the number of an open transaction to the commit that it would be
abbrev pub Opened : Type 0
Opened = finite.FinMap nat_cmp Commit

-- Each open transaction has a number below the limit, and no more changes than it may have.
pub record AreFew (active : Opened) : Type 0 where
  pub numbers : (trx : ℕ) → IsSome (finite.get active trx) → trx < TRANSACTION_LIMIT
  pub few : (trx : ℕ) (commit : Commit) → finite.get active trx ≡ Some commit
      → length commit.changes ≤ CHANGE_LIMIT

-- the changes of the transaction that holds a lock, or none where none does
abbrev pub changes_by : Donor → Option ℕ → List Change
changes_by d None = []
changes_by d (Some trx) = changes_of d trx

-- the rows that the history leaves
abbrev pub committed_rows : Donor → Rows
committed_rows d = fold (history d)

-- The value that a row shows: the one after the history and then the changes of the transaction
-- that holds the row's lock.
abbrev pub value_of : Donor → ℕ → ℕ → Option (List ℕ)
value_of d table key =
    finite.get (after_changes (committed_rows d) (changes_by d (finite.get d.locks (table, key))))
    (table, key)

-- The rows that a transaction changed are locked by it, and a lock is held by an open transaction.
-- Each drop stands behind commits that are there.
pub record IsLocked (d : Donor) : Type 0 where
  pub few : AreFew d.active
  pub own : (trx : ℕ) (commit : Commit) (i : ℕ) (change : Change)
      → finite.get d.active trx ≡ Some commit → slice_get commit.changes i ≡ Some change
      → finite.get d.locks (change.table, change.key) ≡ Some trx
  pub holders : (table key trx : ℕ) → finite.get d.locks (table, key) ≡ Some trx
      → IsSome (finite.get d.active trx)
  pub drops : AllByRecursion (λ drop. drop.0 ≤ length d.binlog) d.drops
