-- A table that is dropped shows no rows any more; those of other tables stay, and so do all locks.
use Rattle.std.proofs.Common.{◌≡◌, ◌≢◌, ℕ, ◌≤◌, not, [], ◌∷◌, ◌++◌, length, Option, Some, None, is_some, refl, sym, ap, ◌∙◌, arith}
use Rattle.clone_plain.proofs.Common.{none-some, nat_cmp_total, nat_cmp-IsAntisymmetric, get-removed_same, AllByRecursion, Drops, Rows, after_changes, Donor, changes_by, committed_rows, value_of, IsLocked}
use Rattle.std.specs.FinMap as finite
use Rattle.std.specs.Option.{option_or, option_map}
use Rattle.clone_model.specs.History.{without_table}
use Rattle.clone_model.proofs.DropLemmas.{fold-dropped, without_own, without_other}
use Rattle.clone_plain.specs.declared.refusal.Cause.{Cause}
use Rattle.clone_plain.specs.declared.refusal.Cause.TheVariants.{NoSuchTable, TableInUse}
use Rattle.clone_plain.specs.Causes.{whether, no_table, least_holder, drop_cause}
use Rattle.clone_plain.specs.Effects.{dropped}
use Rattle.clone_plain.proofs.HolderLemmas.{no_holder}
use Rattle.clone_plain.proofs.ValueLemmas.{after_changes_same, value_is}

-- each drop stands behind so many commits
behind_pushed : (commits table : ℕ) (drops : Drops) → AllByRecursion (λ drop. drop.0 ≤ commits) drops → AllByRecursion (λ drop. drop.0 ≤ commits) (drops ++ (commits, table) ∷ [])
behind_pushed commits table [] all = (omega arith, tt)
behind_pushed commits table (drop ∷ drops) all = (all.0, behind_pushed commits table drops all.1)

pub dropped_locked : (d : Donor) (table : ℕ) → IsLocked d → IsLocked (dropped table d)
dropped_locked d table locked = record { few = locked.few; own = locked.own; holders = locked.holders; drops = behind_pushed (length d.binlog) table d.drops locked.drops }

-- the rows that the history leaves
dropped_rows : (d : Donor) (table : ℕ) → committed_rows (dropped table d) ≡ without_table table (committed_rows d)
dropped_rows d table = fold-dropped d.binlog d.drops table

pub dropped_value_other : (d : Donor) (table other key : ℕ) → other ≢ table → value_of (dropped table d) other key ≡ value_of d other key
dropped_value_other d table other key apart =
    ap (λ (rows : Rows). finite.get (after_changes rows (changes_by d (finite.get d.locks (other, key)))) (other, key)) (dropped_rows d table)
    ∙ after_changes_same (without_table table (committed_rows d)) (committed_rows d) (changes_by d (finite.get d.locks (other, key))) (other, key) (without_other table other key (committed_rows d) apart)

-- no transaction holds a lock in a table against whose drop there is no cause
none_held : (o : Option Cause) (holder : Option ℕ) → option_or o (option_map TableInUse holder) ≡ None → holder ≡ None
none_held None None is = refl
none_held None (Some trx) is = absurd (none-some (TableInUse trx) (sym is))
none_held (Some cause) holder is = absurd (none-some cause (sym is))

pub dropped_free : (d : Donor) (table key : ℕ) → IsLocked d → drop_cause d table ≡ None → finite.get d.locks (table, key) ≡ None
dropped_free d table key locked free = at (finite.get d.locks (table, key)) refl
  where
    at : (o : Option ℕ) → finite.get d.locks (table, key) ≡ o → o ≡ None
    at None is = refl
    at (Some trx) held = absurd (no_holder d.locks table (none_held (no_table d table) (least_holder d.locks table) free) key trx (locked.few.numbers trx (locked.holders table key trx held)) held)

pub dropped_value : (d : Donor) (table key : ℕ) → IsLocked d → drop_cause d table ≡ None → value_of (dropped table d) table key ≡ None
dropped_value d table key locked free =
    value_is (dropped table d) (without_table table (committed_rows d)) None [] table key (dropped_rows d table) (dropped_free d table key locked free) refl ∙ without_own table key (committed_rows d)

-- a second drop finds no table
pub dropped_again : (d : Donor) (table : ℕ) → drop_cause (dropped table d) table ≡ Some NoSuchTable
dropped_again d table =
    ap (λ (o : Option ℕ). option_or (whether (not (is_some o)) NoSuchTable) (option_map TableInUse (least_holder d.locks table))) (get-removed_same nat_cmp_total nat_cmp-IsAntisymmetric d.tables table)
