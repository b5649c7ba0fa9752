-- Which cause there is against a call, and what it means that there is none.
use Rattle.std.proofs.Common.{eq-eqb}
use Rattle.clone_trx.proofs.Common.{◌≡◌, ◌≢◌, ◌<◌, ◌⊎◌, ℕ, Bool, true, false, cond, length, Bor, Option, Some, None, refl, sym, ap, ◌∙◌, inl, inr, arith, eqb-true, ◌==◌, not, is_some, option_copied, option_or, Commit, Cause, NoSuchTrx, NoSuchTable, RowLocked, Donor, changes_of, whether, no_trx, no_table, too_long, undo_full, row_locked, locked_by, CHANGE_LIMIT, change_cause, IsLocked, changes_of_active}
use Rattle.std.specs.FinMap as finite

-- what is borrowed of a map stands there
pub copied_there : {X : Type 0} (o : Option (Bor X)) (there : Option X) → option_copied o ≡ there → is_some o ≡ true → (x : X) × (there ≡ Some x)
copied_there None there same is = absurd (let e = is in cc)
copied_there (Some x) there same is = (x.now, sym same)

pub not_equal : (a b : ℕ) → a ≢ b → (a == b) ≡ false
not_equal a b other = at (a == b) refl
  where
    at : (t : Bool) → (a == b) ≡ t → (a == b) ≡ false
    at true is = absurd (other (eqb-true a b is))
    at false is = is

-- One cause after the other.

pub passed : {first rest : Option Cause} → first ≡ None → option_or first rest ≡ rest
passed {first} {rest} none = ap (λ (o : Option Cause). option_or o rest) none

pub both_none : (a b : Option Cause) → option_or a b ≡ None → (a ≡ None) × (b ≡ None)
both_none None b none = (refl, none)
both_none (Some cause) b none = absurd (let e = none in cc)

pub is_not : (b : Bool) (cause : Cause) → whether b cause ≡ None → b ≡ false
is_not true cause none = absurd (let e = none in cc)
is_not false cause none = refl

pub held_there : {X : Type 0} (o : Option X) → not (is_some o) ≡ false → (x : X) × (o ≡ Some x)
held_there None is = absurd (let e = is in cc)
held_there (Some x) is = (x, refl)

pub trx_there : (d : Donor) (trx : ℕ) (commit : Commit) → finite.get d.active trx ≡ Some commit → no_trx d trx ≡ None
trx_there d trx commit is = ap (λ (o : Option Commit). whether (not (is_some o)) NoSuchTrx) is

pub table_there : (d : Donor) (table count : ℕ) → finite.get d.tables table ≡ Some count → no_table d table ≡ None
table_there d table count is = ap (λ (o : Option ℕ). whether (not (is_some o)) NoSuchTable) is

-- the lock of a row is free, or it is held by the transaction
pub own_or_free : (trx : ℕ) (o : Option ℕ) → locked_by trx o ≡ None → (o ≡ None) ⊎ (o ≡ Some trx)
own_or_free trx None none = inl refl
own_or_free trx (Some holder) none = at (holder == trx) refl none
  where
    at : (b : Bool) → (holder == trx) ≡ b → cond b None (Some (RowLocked holder)) ≡ None → ◌⊎◌ (Some holder ≡ None) (Some holder ≡ Some trx)
    at true same free = inr (ap (λ n. Some n) (eqb-true holder trx same))
    at false other free = absurd (let e = free in cc)

-- A change.

-- there is no cause against it: the transaction is open and has room, the table is there, and the
-- row is free
pub record MayChange (d : Donor) (trx table key : ℕ) : Type 0 where
  pub commit : Commit
  pub was_active : finite.get d.active trx ≡ Some commit
  pub buckets : ℕ
  pub was_table : finite.get d.tables table ≡ Some buckets
  pub few : length (changes_of d trx) < CHANGE_LIMIT
  pub lock : (finite.get d.locks (table, key) ≡ None) ⊎ (finite.get d.locks (table, key) ≡ Some trx)

pub may_change : (d : Donor) (trx table key long : ℕ) → IsLocked d → change_cause d trx table key long ≡ None → MayChange d trx table key
may_change d trx table key long locked none =
    let behind_table : Option Cause = option_or (undo_full d trx) (row_locked d trx table key) in
    let behind_value : Option Cause = option_or (no_table d table) behind_table in
    let at_trx = both_none (no_trx d trx) (option_or (too_long long) behind_value) none in
    let at_value = both_none (too_long long) behind_value at_trx.1 in
    let at_table = both_none (no_table d table) behind_table at_value.1 in
    let at_count = both_none (undo_full d trx) (row_locked d trx table key) at_table.1 in
    let active = held_there (finite.get d.active trx) (is_not _ _ at_trx.0) in
    let there = held_there (finite.get d.tables table) (is_not _ _ at_table.0) in
    let other : length (changes_of d trx) ≢ CHANGE_LIMIT = differs (is_not _ _ at_count.0) in
    let most = locked.few.few trx active.0 active.1 in
    let same = ap length (changes_of_active d trx active.0 active.1) in
    record {
      commit = active.0;
      was_active = active.1;
      buckets = there.0;
      was_table = there.1;
      few = omega arith;
      lock = own_or_free trx (finite.get d.locks (table, key)) at_count.1;
    }
  where
    differs : {a b : ℕ} → (a == b) ≡ false → a ≢ b
    differs {a} {b} apart = λ same. let is = sym (eq-eqb a b same) ∙ apart in cc
