-- The plain donor: its tables, its open transactions with their changes and locks, its binlog and
-- its drops. Nothing of pages is in it.
use Rattle.std.specs.Prelude.{ℕ, List, [], refl}
use Rattle.std.specs.declared.option.Option.{Option}
use Rattle.std.specs.Option.{option_map_or}
use Rattle.std.specs.FinMap as finite
use Rattle.std.specs.Ordering.{nat_cmp}
use Rattle.std.specs.Coded.{Coded, code_by, coded×, coded_ℕ, coded_list, coded_option}
use Rattle.clone_model.specs.Keys.{row_cmp}
use Rattle.clone_model.specs.History.{Entry, Drops, history_of}
use Rattle.clone_model.specs.declared.change.Change.{Change}
use Rattle.clone_model.specs.declared.change.Commit.{Commit}

-- from a row, by table and key, to the number of the transaction that holds its lock
abbrev pub Locks : Type 0
Locks = finite.FinMap row_cmp ℕ

pub record Donor : Type 0 where
  -- from the number of a table to how many buckets it has
  pub tables : finite.FinMap nat_cmp ℕ
  -- From the number of an open transaction to what its commit would be: its writer, its index, and
  -- its changes so far.
  pub active : finite.FinMap nat_cmp Commit
  pub locks : Locks
  -- the commits in their order
  pub binlog : List Commit
  -- the drops of tables in their order
  pub drops : Drops

-- a donor is stored as the pairs of its parts
abbrev pub change_code : Coded Change
change_code =
    code_by (ℕ × (ℕ × Option (List ℕ)))
    (coded× coded_ℕ (coded× coded_ℕ (coded_option (coded_list coded_ℕ))))
    (λ c. (c.table, (c.key, c.value))) (λ p. record { table = p.0; key = p.1.0; value = p.1.1 })
    (λ _. refl)

abbrev pub commit_code : Coded Commit
commit_code =
    code_by (ℕ × (ℕ × List Change)) (coded× coded_ℕ (coded× coded_ℕ (coded_list change_code)))
    (λ c. (c.writer, (c.index, c.changes)))
    (λ p. record { writer = p.0; index = p.1.0; changes = p.1.1 }) (λ _. refl)

abbrev pub donor_code : Coded Donor
donor_code =
    code_by (finite.FinMap nat_cmp ℕ
    × (finite.FinMap nat_cmp Commit × (Locks × (List Commit × Drops))))
    (coded× (finite.code coded_ℕ coded_ℕ)
    (coded× (finite.code coded_ℕ commit_code)
    (coded× (finite.code (coded× coded_ℕ coded_ℕ) coded_ℕ)
    (coded× (coded_list commit_code) (coded_list (coded× coded_ℕ coded_ℕ))))))
    (λ d. (d.tables, (d.active, (d.locks, (d.binlog, d.drops)))))
    (λ p. record
    { tables = p.0; active = p.1.0; locks = p.1.1.0; binlog = p.1.1.1.0; drops = p.1.1.1.1 })
    (λ _. refl)

-- before anything happened
abbrev pub no_donor : Donor
no_donor = record
    { tables = finite.empty; active = finite.empty; locks = finite.empty; binlog = []; drops = [] }

-- the commits and the drops in their order
abbrev pub history : Donor → List Entry
history d = history_of d.binlog d.drops

-- the changes that a transaction has made, or none where it isn't open
abbrev pub changes_of : Donor → ℕ → List Change
changes_of d trx = option_map_or (λ (commit : Commit). commit.changes) (finite.get d.active trx) []
