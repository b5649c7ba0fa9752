-- What each call of the donor does where it isn't refused.
use Rattle.std.specs.Prelude.{ℕ, ◌≡◌, ◌+◌, List, [], ◌∷◌, ◌++◌, length, None, Some}
use Rattle.std.specs.declared.option.Option.{Option}
use Rattle.std.specs.FinMap as finite
use Rattle.clone_model.specs.History.{fold, after_changes}
use Rattle.clone_model.specs.declared.change.Change.{Change}
use Rattle.clone_model.specs.declared.change.Commit.{Commit}
use Rattle.clone_plain.specs.declared.refusal.Undone.{Undone}
use Rattle.clone_plain.specs.declared.refusal.Undone.TheVariants.{Left, Ended}
use Rattle.clone_plain.specs.Donor.{Donor, Locks, history}
use Rattle.clone_plain.specs.Causes.{least_unused}

-- a table is made, of so many buckets
abbrev pub created : ℕ → ℕ → Donor → Donor
created table buckets d = record d { tables = finite.insert d.tables table buckets }

-- a table is dropped: it is gone, and a drop stands behind the commits and the drops before it
abbrev pub dropped : ℕ → Donor → Donor
dropped table d = record d {
  tables = finite.remove d.tables table;
  drops = d.drops ++ (length d.binlog, table) ∷ [];
}

-- a transaction is opened, with no change and no lock
abbrev pub begun : ℕ → ℕ → ℕ → Donor → Donor
begun trx writer index d = record d {
  active = finite.insert d.active trx
      (record { writer = writer; index = index; changes = [] });
}

-- the transaction that begins gets the least free number
abbrev pub Begins : Donor → ℕ → ℕ → ℕ → Donor → Type 0
Begins d writer index trx after =
    (least_unused d.active ≡ Some trx) × (after ≡ begun trx writer index d)

abbrev pub put_of : ℕ → ℕ → List ℕ → Change
put_of table key value = record { table = table; key = key; value = Some value }

abbrev pub delete_of : ℕ → ℕ → Change
delete_of table key = record { table = table; key = key; value = None }

-- a change behind the others
abbrev pub with_change : Change → Commit → Commit
with_change change commit = record commit { changes = commit.changes ++ change ∷ [] }

-- a change is made: it joins those of its transaction, and the transaction holds the row's lock
pub record Changes (d : Donor) (trx : ℕ) (change : Change) (after : Donor) : Type 0 where
  pub commit : Commit
  pub buckets : ℕ
  pub was_active : finite.get d.active trx ≡ Some commit
  pub was_table : finite.get d.tables change.table ≡ Some buckets
  pub is : after ≡ record d {
    active = finite.insert d.active trx (with_change change commit);
    locks = finite.insert d.locks (change.table, change.key) trx;
  }

-- the row's value after the history and then the transaction's own changes
pub record Gets (d : Donor) (trx table key : ℕ) (value : Option (List ℕ)) : Type 0 where
  pub commit : Commit
  pub was_active : finite.get d.active trx ≡ Some commit
  pub is : value ≡ finite.get (after_changes (fold (history d)) commit.changes) (table, key)

-- the locks of a transaction are released, and no others
pub record Releases (trx : ℕ) (before after : Locks) : Type 0 where
  pub own : (row : ℕ × ℕ) → finite.get before row ≡ Some trx → finite.get after row ≡ None
  pub others : (row : ℕ × ℕ) → ¬ (finite.get before row ≡ Some trx)
      → finite.get after row ≡ finite.get before row

-- the last change is taken back, and the locks stay
pub record TakesBack (d : Donor) (trx left : ℕ) (after : Donor) : Type 0 where
  pub commit : Commit
  pub was_active : finite.get d.active trx ≡ Some commit
  pub front : List Change
  pub last : Change
  pub split : commit.changes ≡ front ++ last ∷ []
  pub count : left ≡ length front
  pub is : after
      ≡ record d { active = finite.insert d.active trx (record commit { changes = front }) }

-- a transaction without changes ends, and leaves nothing
pub record Leaves (d : Donor) (trx : ℕ) (after : Donor) : Type 0 where
  pub commit : Commit
  pub was_active : finite.get d.active trx ≡ Some commit
  pub nothing : commit.changes ≡ []
  pub locks : Locks
  pub released : Releases trx d.locks locks
  pub is : after ≡ record d { active = finite.remove d.active trx; locks = locks }

abbrev pub Undoes : Donor → ℕ → Undone → Donor → Type 0
Undoes d trx (Left left) after = TakesBack d trx left after
Undoes d trx Ended after = Leaves d trx after

-- all changes of a transaction join the binlog as one commit, and it ends
pub record Commits (d : Donor) (trx position : ℕ) (after : Donor) : Type 0 where
  pub commit : Commit
  pub was_active : finite.get d.active trx ≡ Some commit
  pub locks : Locks
  pub released : Releases trx d.locks locks
  pub count : position ≡ length d.binlog + 1
  pub is : after ≡ record d
      { active = finite.remove d.active trx; locks = locks; binlog = d.binlog ++ commit ∷ [] }
