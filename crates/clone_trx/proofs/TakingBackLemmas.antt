-- The last change of a transaction is taken back, and the contents stay sound.
use Rattle.clone_trx.proofs.Common.{◌≡◌, ◌<◌, ◌≤◌, ◌+◌, ◌%◌, ◌++◌, ℕ, List, [], ◌∷◌, length, refl, sym, ap, subst, ◌∙◌, arith, inl, inr, Option, Some, is_some, mod-lt, cases_eq, length_push, same_Some, after_changes, Commit, row_slot, UndoEntry, capacity, UndoSlot, Contents, HasPage, told_value, undone, with_slot, MayTakeBack, taken_back, telling, set_at-same, set_at-other, Donor, TakesBack, IsBound, HoldsTables, HoldsChains, HoldsRows, IsUndoSlot, StandsFor, IsSound, TellsChange, TellsChanges, committed_rows, IsLocked, value_of, own-set, others-set, taken_value, taken_value_other, taken_locked}
use Rattle.std.specs.FinMap as finite
use Rattle.clone_trx.proofs.ChainLemmas.{same_chains, on_there}
use Rattle.clone_trx.proofs.RowSlotLemmas.{KeepsBound, SetsSlot, rows_set, kept}
use Rattle.clone_trx.proofs.UndoRecordLemmas.{counted, tells_on, tells_split, own_slot, stands_open, stands_still}
use Rattle.clone_trx.proofs.SoundChangeLemmas.{same_tables}

-- the page of a slot that is bound is there
pub bound_there : (d : Donor) (c : Contents) (e : UndoEntry) → HoldsTables d c → HoldsChains d c → HoldsRows d c.next c.slot → IsBound c.slot e.table e.page e.slot e.key → HasPage c e.table e.page
bound_there d c e tables chains rows bound =
    let own = rows.own e.table e.page e.slot e.key bound in
    let sizes = tables.sizes e.table own.0 own.1 in
    on_there chains e.table own.0 (e.key % own.0) e.page own.1 (mod-lt e.key (omega (arith, sizes.3))) own.2

-- the row of the change shows the value from before it
pub taken_rows : (d after : Donor) (c : Contents) (trx left : ℕ) (e : UndoEntry) → IsLocked d → HoldsRows d c.next c.slot → (t : TakesBack d trx left after) → TellsChange c.slot (after_changes (committed_rows d) t.front) t.last e
    → HoldsRows after c.next (undone e c).slot × KeepsBound c.slot (undone e c).slot
taken_rows d after c trx left e locked rows t tells =
    let own = rows.own e.table e.page e.slot e.key tells.bound in
    let value : value_of after e.table e.key ≡ told_value e = (λ i. value_of after (tells.table i) (tells.key i)) ∙ taken_value locked t ∙ sym tells.before in
    let sets : SetsSlot d after c e.table e.page e.slot e.key = record {
      rows = rows;
      tables = ap (λ (x : Donor). x.tables) t.is;
      row_slot = record { count = own.0; there = own.1; chain = own.2; may = inl tells.bound };
      others = λ table k other. taken_value_other locked t table k (λ x y. other (x ∙ sym tells.table) (y ∙ sym tells.key));
    } in
    subst (λ (v : Option (List ℕ)). HoldsRows after c.next (with_slot e.table e.page e.slot (row_slot e.key v) c).slot × KeepsBound c.slot (with_slot e.table e.page e.slot (row_slot e.key v) c).slot) value
    (rows_set d after c e.table e.page e.slot e.key sets, kept d after c e.table e.page e.slot e.key sets)

module _ (d after : Donor) (c : Contents) (trx left : ℕ) (slot : UndoSlot) (front : List UndoEntry) (e : UndoEntry) (sound : IsSound d c) (t : TakesBack d trx left after) (used : c.undo trx ≡ Some slot) (last : slot.records ≡ front ++ e ∷ []) where
  abbrev commit : Commit
  commit = t.commit

  abbrev fewer : Commit
  fewer = record commit { changes = t.front }

  small : trx < 64
  small = sound.locked.few.numbers trx (ap is_some t.was_active)

  own : IsUndoSlot d c.slot commit (c.undo trx)
  own = own_slot d c.slot (finite.get d.active trx) (c.undo trx) commit t.was_active (sound.undo trx small)

  same_slot : ◌≡◌ {A = UndoSlot} (record { writer = commit.writer; index = commit.index; records = own.records }) slot
  same_slot = same_Some (record { writer = commit.writer; index = commit.index; records = own.records }) slot (sym own.is ∙ used)

  records : own.records ≡ front ++ e ∷ []
  records = ap (λ (u : UndoSlot). u.records) same_slot ∙ last

  pub told : TellsChanges c.slot (committed_rows d) t.front front × TellsChange c.slot (after_changes (committed_rows d) t.front) t.last e
  told = tells_split c.slot (committed_rows d) commit.changes t.front own.records front t.last e t.split records own.tells

  pub count_is : length slot.records ≡ left + 1
  count_is = omega (arith, ap length last, length_push front e, counted c.slot (committed_rows d) t.front front told.0, t.count)

  few : length slot.records ≤ capacity
  few = omega (arith, count_is, t.count, ap length t.split, length_push t.front t.last, sound.locked.few.few trx commit t.was_active)

  pub may_take : MayTakeBack c trx slot front e
  may_take = record { small = small; used = used; last = last; few = few; in_range = told.1.in_range; there = bound_there d c e sound.tables sound.chains sound.rows told.1.bound; bound = told.1.bound }

  history : committed_rows after ≡ committed_rows d
  history = ap committed_rows t.is

  active : after.active ≡ finite.insert d.active trx fewer
  active = ap (λ (x : Donor). x.active) t.is

  abbrev new : Contents
  new = taken_back trx slot front e c

  rows : HoldsRows after c.next new.slot × KeepsBound c.slot new.slot
  rows = taken_rows d after c trx left e sound.locked sound.rows t told.1

  own_now : IsUndoSlot after new.slot fewer (new.undo trx)
  own_now = record {
    records = front;
    is = set_at-same trx trx (telling slot front) c.undo refl ∙ ap (λ (u : UndoSlot). telling u front) (sym same_slot);
    tells = subst (λ r. TellsChanges new.slot r t.front front) (sym history) (tells_on c.slot new.slot (committed_rows d) t.front front rows.1 told.0);
  }

  pub taken_sound : IsSound after new
  taken_sound = record {
    locked = taken_locked sound.locked t;
    tables = same_tables d after c new (ap (λ (x : Donor). x.tables) t.is) refl refl sound.tables;
    chains = same_chains d after c new (ap (λ (x : Donor). x.tables) t.is) refl refl sound.chains;
    rows = rows.0;
    undo = λ s low. elim (cases_eq s trx) [
      | inl same ↦ subst (λ (n : ℕ). StandsFor after new.slot (finite.get after.active n) (new.undo n)) (sym same) (stands_open after new.slot (finite.get after.active trx) (new.undo trx) fewer (own-set d after trx fewer active) own_now)
      | inr other ↦ stands_still d after c.slot new.slot (finite.get d.active s) (finite.get after.active s) (c.undo s) (new.undo s) history rows.1 (others-set d after trx fewer active s other)
          (set_at-other trx s (telling slot front) c.undo other) (sound.undo s low)
    ];
    position = sound.position ∙ ap (λ (x : Donor). length x.binlog) (sym t.is);
  }
