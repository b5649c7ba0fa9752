-- What each call keeps of transactions, whatever the pages are.
use Rattle.clone_trx.proofs.Common.{◌≡◌, ◌≢◌, ◌<◌, ◌≤◌, ◌+◌, ◌-◌, ◌⊎◌, inl, inr, ℕ, length, refl, sym, ap, subst, ◌∙◌, arith, Option, Some, None, IsSome, is_some, cond, nat_cmp, TABLE_LIMIT, HIGHEST_TABLE, MOST_BUCKETS, nat_cmp-IsAntisymmetric, nat_cmp_total, len-insert, len-empty, get-empty, none-some, same_Some, cases_eq, get-set_same, get-set_other, get-removed_same, get-removed_other, Change, Donor, no_donor, Changes, TakesBack, Leaves, Commits, Releases, Locks, row_cmp, row_cmp_total, row_cmp_exact, cases_row, begun, created, TRANSACTION_LIMIT, CHANGE_LIMIT, changes_of, changed_locked, taken_locked, left_locked, begun_locked, committed_locked, IsSafe, AreTables, cond_both, len-remove, dropped_free, dropped_locked, drop_cause, dropped}
use Rattle.std.specs.FinMap as finite
use Rattle.clone_trx.proofs.CommitLemmas.{opened_sound}

pub no_safe : IsSafe no_donor
no_safe = record {
  locked = opened_sound.locked;
  tables = record { few = omega (arith, len-empty nat_cmp ℕ); ranges = λ table count is. absurd (none-some count (sym (get-empty nat_cmp table) ∙ is)) };
  rows = λ table key trx is. absurd (none-some trx (sym (get-empty row_cmp (table, key)) ∙ is));
}

-- the rows that are locked are those of tables, if each was locked before
abbrev AreOn : Donor → Type 0
AreOn d = (table key trx : ℕ) → finite.get d.locks (table, key) ≡ Some trx → IsSome (finite.get d.tables table)

same_rows : (d after : Donor) → after.tables ≡ d.tables → ((table key trx : ℕ) → finite.get after.locks (table, key) ≡ Some trx → (x : ℕ) × (finite.get d.locks (table, key) ≡ Some x)) → AreOn d → AreOn after
same_rows d after same locks on table key trx is = let was = locks table key trx is in ap (λ m. is_some (finite.get m table)) same ∙ on table key was.0 was.1

-- a lock that is there after some were released was there before
released_before : (trx : ℕ) (before after : Locks) → Releases trx before after → (row : ℕ × ℕ) (x : ℕ) → finite.get after row ≡ Some x → (y : ℕ) × (finite.get before row ≡ Some y)
released_before trx before after r row x is = by (finite.get before row) refl
  where
    by : (o : Option ℕ) → finite.get before row ≡ o → (y : ℕ) × (finite.get before row ≡ Some y)
    by None none = absurd (none-some x (sym none ∙ sym (r.others row (λ own. none-some trx (sym none ∙ own))) ∙ is))
    by (Some y) some = (y, some)

same_tables : (d after : Donor) → after.tables ≡ d.tables → AreTables d.tables → AreTables after.tables
same_tables d after same are = subst AreTables (sym same) are

pub begun_safe : (d : Donor) (trx writer index : ℕ) → trx < TRANSACTION_LIMIT → IsSafe d → IsSafe (begun trx writer index d)
begun_safe d trx writer index small safe = record { locked = begun_locked d trx writer index small safe.locked; tables = safe.tables; rows = safe.rows }

pub changed_safe : {d after : Donor} {trx : ℕ} {change : Change} → IsSafe d → (c : Changes d trx change after) → (finite.get d.locks (change.table, change.key) ≡ None) ⊎ (finite.get d.locks (change.table, change.key) ≡ Some trx) → length (changes_of d trx) < CHANGE_LIMIT → IsSafe after
changed_safe {d} {after} {trx} {change} safe c lock few = record { locked = changed_locked safe.locked c lock few; tables = same_tables d after tables safe.tables; rows = on }
  where
    tables : after.tables ≡ d.tables
    tables = ap (λ (x : Donor). x.tables) c.is

    on : AreOn after
    on table key x is = by (cases_row (table, key) (change.table, change.key))
      where
        by : ◌⊎◌ (◌≡◌ {A = ℕ × ℕ} (table, key) (change.table, change.key)) (◌≢◌ {A = ℕ × ℕ} (table, key) (change.table, change.key)) → IsSome (finite.get after.tables table)
        by (inl same) = ap (λ m. is_some (finite.get m table)) tables ∙ ap (λ (row : ℕ × ℕ). is_some (finite.get d.tables row.0)) same ∙ ap is_some c.was_table
        by (inr other) = ap (λ m. is_some (finite.get m table)) tables ∙ safe.rows table key x (sym (get-set_other row_cmp_total row_cmp_exact d.locks (change.table, change.key) trx (table, key) other) ∙ ap (λ (m : Donor). finite.get m.locks (table, key)) (sym c.is) ∙ is)

pub taken_safe : {d after : Donor} {trx left : ℕ} → IsSafe d → TakesBack d trx left after → IsSafe after
taken_safe {d} {after} safe t = record {
  locked = taken_locked safe.locked t;
  tables = same_tables d after (ap (λ (x : Donor). x.tables) t.is) safe.tables;
  rows = same_rows d after (ap (λ (x : Donor). x.tables) t.is) (λ table key x is. (x, ap (λ (m : Donor). finite.get m.locks (table, key)) (sym t.is) ∙ is)) safe.rows;
}

pub left_safe : {d after : Donor} {trx : ℕ} → IsSafe d → Leaves d trx after → IsSafe after
left_safe {d} {after} {trx} safe l = record {
  locked = left_locked safe.locked l;
  tables = same_tables d after (ap (λ (x : Donor). x.tables) l.is) safe.tables;
  rows = same_rows d after (ap (λ (x : Donor). x.tables) l.is) (λ table key x is. released_before trx d.locks l.locks l.released (table, key) x (ap (λ (m : Donor). finite.get m.locks (table, key)) (sym l.is) ∙ is)) safe.rows;
}

pub committed_safe : {d after : Donor} {trx position : ℕ} → IsSafe d → Commits d trx position after → IsSafe after
committed_safe {d} {after} {trx} safe c = record {
  locked = committed_locked safe.locked c;
  tables = same_tables d after (ap (λ (x : Donor). x.tables) c.is) safe.tables;
  rows = same_rows d after (ap (λ (x : Donor). x.tables) c.is) (λ table key x is. released_before trx d.locks c.locks c.released (table, key) x (ap (λ (m : Donor). finite.get m.locks (table, key)) (sym c.is) ∙ is)) safe.rows;
}

pub created_safe : (d : Donor) (table buckets : ℕ) → IsSafe d → finite.get d.tables table ≡ None → finite.len d.tables < TABLE_LIMIT → 1 ≤ table → table ≤ HIGHEST_TABLE → 1 ≤ buckets → buckets ≤ MOST_BUCKETS → IsSafe (created table buckets d)
created_safe d table buckets safe none room low high some few = record {
  locked = record { few = safe.locked.few; own = safe.locked.own; holders = safe.locked.holders; drops = safe.locked.drops };
  tables = record {
    few = omega (arith, room, len-insert nat_cmp_total d.tables table buckets ∙ ap (λ o. cond (is_some o) (finite.len d.tables) (finite.len d.tables + 1)) none);
    ranges = λ t count is. by t count is (cases_eq t table);
  };
  rows = λ t key trx is. still t (safe.rows t key trx is) (cases_eq t table);
}
  where
    by : (t count : ℕ) → finite.get (finite.insert d.tables table buckets) t ≡ Some count → (t ≡ table) ⊎ (t ≢ table) → (1 ≤ t) × (t ≤ HIGHEST_TABLE) × (1 ≤ count) × (count ≤ MOST_BUCKETS)
    by t count is (inl same) =
        let mine : buckets ≡ count = same_Some buckets count (sym (get-set_same nat_cmp_total nat_cmp-IsAntisymmetric d.tables table buckets) ∙ ap (finite.get (finite.insert d.tables table buckets)) (sym same) ∙ is) in
        (omega (arith, low, same), omega (arith, high, same), omega (arith, some, mine), omega (arith, few, mine))
    by t count is (inr other) = safe.tables.ranges t count (sym (get-set_other nat_cmp_total nat_cmp-IsAntisymmetric d.tables table buckets t other) ∙ is)

    still : (t : ℕ) → IsSome (finite.get d.tables t) → (t ≡ table) ⊎ (t ≢ table) → IsSome (finite.get (finite.insert d.tables table buckets) t)
    still t there (inl same) = ap (λ n. is_some (finite.get (finite.insert d.tables table buckets) n)) same ∙ ap is_some (get-set_same nat_cmp_total nat_cmp-IsAntisymmetric d.tables table buckets)
    still t there (inr other) = ap is_some (get-set_other nat_cmp_total nat_cmp-IsAntisymmetric d.tables table buckets t other) ∙ there

pub dropped_safe : (d : Donor) (table : ℕ) → IsSafe d → drop_cause d table ≡ None → IsSafe (dropped table d)
dropped_safe d table safe free = record {
  locked = dropped_locked d table safe.locked;
  tables = record {
    few = subst (λ n. n ≤ TABLE_LIMIT) (sym (len-remove nat_cmp_total d.tables table)) (cond_both (finite.contains_key d.tables table) (finite.len d.tables - 1) (finite.len d.tables) (λ n. n ≤ TABLE_LIMIT) (λ _. omega (arith, safe.tables.few)) (λ _. safe.tables.few));
    ranges = λ t count is. safe.tables.ranges t count (sym (stays t (λ same. none-some count (sym (ap (finite.get (finite.remove d.tables table)) same ∙ gone) ∙ is))) ∙ is);
  };
  rows = λ t key trx is. ap is_some (stays t (λ same. none-some trx (sym (ap (λ n. finite.get d.locks (n, key)) same ∙ dropped_free d table key safe.locked free) ∙ is))) ∙ safe.rows t key trx is;
}
  where
    gone : finite.get (finite.remove d.tables table) table ≡ None
    gone = get-removed_same nat_cmp_total nat_cmp-IsAntisymmetric d.tables table

    stays : (t : ℕ) → t ≢ table → finite.get (finite.remove d.tables table) t ≡ finite.get d.tables t
    stays t other = get-removed_other nat_cmp_total nat_cmp-IsAntisymmetric d.tables table t other
