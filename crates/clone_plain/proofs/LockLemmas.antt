-- Locks stay with the open transactions that changed their rows, at each step of the plain donor.
use Rattle.std.proofs.Common.{◌≡◌, ◌≢◌, ℕ, ◌<◌, ◌≤◌, ◌⊎◌, List, [], ◌∷◌, ◌++◌, length, Some, None, IsSome, is_some, refl, sym, ap, subst, ◌∙◌, inl, inr, arith, slice_get}
use Rattle.clone_plain.proofs.Common.{cases_eq, length_push, same_Some, none-some, slice_get_within, AllByRecursion, nat_cmp-IsAntisymmetric, nat_cmp_total, Change, Commit, row_cmp_total, row_cmp_exact, Drops, Donor, changes_of, TRANSACTION_LIMIT, CHANGE_LIMIT, begun, with_change, Changes, TakesBack, Leaves, Commits, Releases, IsLocked, get-set_same, get-set_other, get-removed_same, cases_row, cases_held, cases_pushed, slice_get-pushed_front}
use Rattle.std.specs.FinMap as finite
use Rattle.clone_plain.proofs.OpenLemmas.{few_inserted, few_removed}
use Rattle.clone_plain.proofs.ValueLemmas.{changes_of_active, others-set, others-removed, own-set}

-- each drop stands behind commits that are there
abbrev AreBehind : Donor → Type 0
AreBehind d = AllByRecursion (λ drop. drop.0 ≤ length d.binlog) d.drops

-- The open transactions after a step.

-- it is the one that was set, or another that is as before
set_cases : (d after : Donor) (trx n : ℕ) (new commit : Commit) → after.active ≡ finite.insert d.active trx new → finite.get after.active n ≡ Some commit
    → ((n ≡ trx) × (commit ≡ new)) ⊎ ((n ≢ trx) × (finite.get d.active n ≡ Some commit))
set_cases d after trx n new commit is there = at (cases_eq n trx)
  where
    at : (n ≡ trx) ⊎ (n ≢ trx) → ((n ≡ trx) × (commit ≡ new)) ⊎ ((n ≢ trx) × (finite.get d.active n ≡ Some commit))
    at (inl same) = inl (same, same_Some commit new (sym there ∙ ap (finite.get after.active) same ∙ own-set d after trx new is))
    at (inr other) = inr (other, sym (others-set d after trx new is n other) ∙ there)

-- the one that was removed isn't there
removed_cases : (d after : Donor) (trx n : ℕ) (commit : Commit) → after.active ≡ finite.remove d.active trx → finite.get after.active n ≡ Some commit → (n ≢ trx) × (finite.get d.active n ≡ Some commit)
removed_cases d after trx n commit is there = (other, sym (others-removed d after trx is n other) ∙ there)
  where
    other : n ≢ trx
    other same = none-some commit (sym (get-removed_same nat_cmp_total nat_cmp-IsAntisymmetric d.active trx) ∙ sym (ap (λ m. finite.get m trx) is) ∙ sym (ap (finite.get after.active) same) ∙ there)

-- what a step that sets one transaction is to do to the locks
record SetsOne (d after : Donor) (trx : ℕ) (new : Commit) : Type 0 where
  active : after.active ≡ finite.insert d.active trx new
  number : trx < TRANSACTION_LIMIT
  few : length new.changes ≤ CHANGE_LIMIT
  own : (i : ℕ) (change : Change) → slice_get new.changes i ≡ Some change → finite.get after.locks (change.table, change.key) ≡ Some trx
  kept : (row : ℕ × ℕ) (n : ℕ) → n ≢ trx → finite.get d.locks row ≡ Some n → finite.get after.locks row ≡ Some n
  held : (row : ℕ × ℕ) (n : ℕ) → finite.get after.locks row ≡ Some n → (n ≡ trx) ⊎ (finite.get d.locks row ≡ Some n)
  drops : AreBehind after

set_locked : (d after : Donor) (trx : ℕ) (new : Commit) → IsLocked d → SetsOne d after trx new → IsLocked after
set_locked d after trx new locked s = record {
  few = few_inserted d.active after.active trx new locked.few s.active s.number s.few;
  own = λ n commit i change is at. own n commit i change at (set_cases d after trx n new commit s.active is);
  holders = λ table key n is. open_still (table, key) n (s.held (table, key) n is);
  drops = s.drops;
}
  where
    own : (n : ℕ) (commit : Commit) (i : ℕ) (change : Change) → slice_get commit.changes i ≡ Some change → ((n ≡ trx) × (commit ≡ new)) ⊎ ((n ≢ trx) × (finite.get d.active n ≡ Some commit))
        → finite.get after.locks (change.table, change.key) ≡ Some n
    own n commit i change is (inl same) = s.own i change (ap (λ (c : Commit). slice_get c.changes i) (sym same.1) ∙ is) ∙ ap (λ x. Some x) (sym same.0)
    own n commit i change is (inr other) = s.kept (change.table, change.key) n other.0 (locked.own n commit i change other.1 is)

    open_own : IsSome (finite.get after.active trx)
    open_own = ap is_some (own-set d after trx new s.active)

    open_other : (n : ℕ) → (n ≡ trx) ⊎ (n ≢ trx) → IsSome (finite.get d.active n) → IsSome (finite.get after.active n)
    open_other n (inl same) was = subst (λ m. IsSome (finite.get after.active m)) (sym same) open_own
    open_other n (inr other) was = ap is_some (others-set d after trx new s.active n other) ∙ was

    open_still : (row : ℕ × ℕ) (n : ℕ) → (n ≡ trx) ⊎ (finite.get d.locks row ≡ Some n) → IsSome (finite.get after.active n)
    open_still row n (inl same) = subst (λ m. IsSome (finite.get after.active m)) (sym same) open_own
    open_still row n (inr held) = open_other n (cases_eq n trx) (locked.holders row.0 row.1 n held)

-- what a step that ends a transaction is to do to the locks
record EndsOne (d after : Donor) (trx : ℕ) : Type 0 where
  active : after.active ≡ finite.remove d.active trx
  released : Releases trx d.locks after.locks
  drops : AreBehind after

ended_locked : (d after : Donor) (trx : ℕ) → IsLocked d → EndsOne d after trx → IsLocked after
ended_locked d after trx locked s = record {
  few = few_removed d.active after.active trx locked.few s.active;
  own = λ n commit i change is at. let was = removed_cases d after trx n commit s.active is in kept (change.table, change.key) n was.0 (locked.own n commit i change was.1 at);
  holders = λ table key n is. let was = held (table, key) n is (cases_held (finite.get d.locks (table, key)) trx) in ap is_some (others-removed d after trx s.active n was.0) ∙ locked.holders table key n was.1;
  drops = s.drops;
}
  where
    kept : (row : ℕ × ℕ) (n : ℕ) → n ≢ trx → finite.get d.locks row ≡ Some n → finite.get after.locks row ≡ Some n
    kept row n other is = s.released.others row (λ own. other (same_Some n trx (sym is ∙ own))) ∙ is

    held : (row : ℕ × ℕ) (n : ℕ) → finite.get after.locks row ≡ Some n → (finite.get d.locks row ≡ Some trx) ⊎ (finite.get d.locks row ≢ Some trx) → (n ≢ trx) × (finite.get d.locks row ≡ Some n)
    held row n is (inl own) = absurd (none-some n (sym (s.released.own row own) ∙ is))
    held row n is (inr free) =
        let was = sym (s.released.others row free) ∙ is in
        (λ same. free (was ∙ ap (λ x. Some x) same), was)

-- A change is made, of a row that no other transaction holds.

pub changed_locked : {d after : Donor} {trx : ℕ} {change : Change} → IsLocked d → (c : Changes d trx change after) → (finite.get d.locks (change.table, change.key) ≡ None) ⊎ (finite.get d.locks (change.table, change.key) ≡ Some trx)
    → length (changes_of d trx) < CHANGE_LIMIT → IsLocked after
changed_locked {d} {after} {trx} {change} locked c free room = set_locked d after trx (with_change change c.commit) locked record {
  active = ap (λ (e : Donor). e.active) c.is;
  number = locked.few.numbers trx (ap is_some c.was_active);
  few = let count = ap length (changes_of_active d trx c.commit c.was_active) in omega (arith, room, count, length_push c.commit.changes change);
  own = λ i x is. own i x (cases_pushed c.commit.changes change i x is);
  kept = λ row n other is. kept row n is (cases_row row at) other free;
  held = λ row n is. held row n is (cases_row row at);
  drops = subst AreBehind (sym c.is) locked.drops;
}
  where
    at : ℕ × ℕ
    at = (change.table, change.key)

    lock_own : finite.get after.locks at ≡ Some trx
    lock_own = ap (λ (e : Donor). finite.get e.locks at) c.is ∙ get-set_same row_cmp_total row_cmp_exact d.locks at trx

    lock_other : (row : ℕ × ℕ) → row ≢ at → finite.get after.locks row ≡ finite.get d.locks row
    lock_other row other = ap (λ (e : Donor). finite.get e.locks row) c.is ∙ get-set_other row_cmp_total row_cmp_exact d.locks at trx row other

    by_row : (row : ℕ × ℕ) → finite.get d.locks row ≡ Some trx → (row ≡ at) ⊎ (row ≢ at) → finite.get after.locks row ≡ Some trx
    by_row row was (inl same) = ap (finite.get after.locks) same ∙ lock_own
    by_row row was (inr other) = lock_other row other ∙ was

    own : (i : ℕ) (x : Change) → ((i < length c.commit.changes) × (slice_get c.commit.changes i ≡ Some x)) ⊎ ((i ≡ length c.commit.changes) × (x ≡ change)) → finite.get after.locks (x.table, x.key) ≡ Some trx
    own i x (inl before) = by_row (x.table, x.key) (locked.own trx c.commit i x c.was_active before.1) (cases_row (x.table, x.key) at)
    own i x (inr last) = ap (λ (y : Change). finite.get after.locks (y.table, y.key)) last.1 ∙ lock_own

    kept : (row : ℕ × ℕ) (n : ℕ) → finite.get d.locks row ≡ Some n → (row ≡ at) ⊎ (row ≢ at) → n ≢ trx → (finite.get d.locks at ≡ None) ⊎ (finite.get d.locks at ≡ Some trx) → finite.get after.locks row ≡ Some n
    kept row n is (inl same) other (inl none) = absurd (none-some n (sym none ∙ sym (ap (finite.get d.locks) same) ∙ is))
    kept row n is (inl same) other (inr own_lock) = absurd (other (same_Some n trx (sym is ∙ ap (finite.get d.locks) same ∙ own_lock)))
    kept row n is (inr apart) other either = lock_other row apart ∙ is

    held : (row : ℕ × ℕ) (n : ℕ) → finite.get after.locks row ≡ Some n → (row ≡ at) ⊎ (row ≢ at) → (n ≡ trx) ⊎ (finite.get d.locks row ≡ Some n)
    held row n is (inl same) = inl (same_Some n trx (sym is ∙ ap (finite.get after.locks) same ∙ lock_own))
    held row n is (inr other) = inr (sym (lock_other row other) ∙ is)

-- A change is taken back.

pub taken_locked : {d after : Donor} {trx left : ℕ} → IsLocked d → TakesBack d trx left after → IsLocked after
taken_locked {d} {after} {trx} {left} locked t =
    subst (λ (e : Donor). IsLocked e) (sym t.is) (set_locked d (record d { active = finite.insert d.active trx fewer }) trx fewer locked record {
      active = refl;
      number = locked.few.numbers trx (ap is_some t.was_active);
      few = let most = locked.few.few trx t.commit t.was_active in let count = ap length t.split in omega (arith, most, count, length_push t.front t.last);
      own = λ i change is. locked.own trx t.commit i change t.was_active (ap (λ (cs : List Change). slice_get cs i) t.split ∙ slice_get-pushed_front t.front t.last i (slice_get_within t.front i change is) ∙ is);
      kept = λ row n other is. is;
      held = λ row n is. inr is;
      drops = locked.drops;
    })
  where
    fewer : Commit
    fewer = record t.commit { changes = t.front }

-- A transaction ends.

pub left_locked : {d after : Donor} {trx : ℕ} → IsLocked d → Leaves d trx after → IsLocked after
left_locked {d} {after} {trx} locked l = ended_locked d after trx locked record {
  active = ap (λ (e : Donor). e.active) l.is;
  released = subst (λ (e : Donor). Releases trx d.locks e.locks) (sym l.is) l.released;
  drops = subst AreBehind (sym l.is) locked.drops;
}

-- A transaction begins.

pub begun_locked : (d : Donor) (trx writer index : ℕ) → trx < TRANSACTION_LIMIT → IsLocked d → IsLocked (begun trx writer index d)
begun_locked d trx writer index small locked = set_locked d (begun trx writer index d) trx (record { writer = writer; index = index; changes = [] }) locked record {
  active = refl;
  number = small;
  few = omega arith;
  own = λ i change is. absurd (none-some change is);
  kept = λ row n other is. is;
  held = λ row n is. inr is;
  drops = locked.drops;
}

-- A transaction commits.

behind_more : (binlog : List Commit) (commit : Commit) (drops : Drops) → AllByRecursion (λ drop. drop.0 ≤ length binlog) drops → AllByRecursion (λ drop. drop.0 ≤ length (binlog ++ commit ∷ [])) drops
behind_more binlog commit [] all = tt
behind_more binlog commit (drop ∷ drops) all = (omega (arith, all.0, length_push binlog commit), behind_more binlog commit drops all.1)

pub committed_locked : {d after : Donor} {trx position : ℕ} → IsLocked d → Commits d trx position after → IsLocked after
committed_locked {d} {after} {trx} locked c = ended_locked d after trx locked record {
  active = ap (λ (e : Donor). e.active) c.is;
  released = subst (λ (e : Donor). Releases trx d.locks e.locks) (sym c.is) c.released;
  drops = subst AreBehind (sym c.is) (behind_more d.binlog c.commit d.drops locked.drops);
}
