-- A change keeps the contents sound.
use Rattle.clone_trx.proofs.Common.{◌≡◌, ◌<◌, ◌≤◌, ◌%◌, ◌⊎◌, ◌++◌, ℕ, List, [], ◌∷◌, length, refl, sym, ap, subst, ◌∙◌, arith, inl, inr, Option, Some, None, is_some, IfSome, mod-lt, cases_eq, after_changes, Change, Commit, row_slot, bound_key, UndoEntry, IsEntry, UndoSlot, Contents, told_value, MayChange, changed, telling, set_at-same, set_at-other, slot-same, CHANGE_LIMIT, TABLE_LIMIT, Donor, changes_of, with_change, Changes, HoldsTables, HoldsRows, IsUndoSlot, StandsFor, IsSound, TellsChange, TellsChanges, committed_rows, value_of, told, IsRowSlot, changes_of_active, own-set, others-set, own_value, changed_value, changed_value_other, changed_locked, entry_in, named}
use Rattle.std.specs.FinMap as finite
use Rattle.clone_trx.proofs.ChainLemmas.{same_chains, on_there}
use Rattle.clone_trx.proofs.RowSlotLemmas.{KeepsBound, SetsSlot, bound-row_slot, rows_set, kept}
use Rattle.clone_trx.proofs.UndoRecordLemmas.{counted, in_range, tells_on, tells_push, own_slot, stands_open, stands_still}

-- what an undo record tells is the value that it was made of
pub told-value : (table page key slot_number : ℕ) (value : Option (List ℕ)) → told_value (told table page key slot_number value) ≡ value
told-value table page key slot_number None = refl
told-value table page key slot_number (Some value) = refl

-- the tables stay
pub same_tables : (d after : Donor) (c now : Contents) → after.tables ≡ d.tables → now.dictionary ≡ c.dictionary → now.size ≡ c.size → HoldsTables d c → HoldsTables after now
same_tables d after c now same entries size holds = record {
  sizes = λ t n is. let had = holds.sizes t n (was t ∙ is) in (record { pages = had.0.pages; size = sized t ∙ had.0.size; enough = had.0.enough; most = had.0.most }, had.1, had.2, had.3, had.4);
  spaces = λ t first none. sized t ∙ holds.spaces t first (was t ∙ none);
  listed = λ t there. let had = holds.listed t (ap is_some (was t) ∙ there) in (had.0, names had.0 ∙ had.1);
  told = λ t n pages j is size_is name. ap (λ l. entry_in l j) entries ∙ holds.told t n pages j (was t ∙ is) (sym (sized t) ∙ size_is) (sym (names j) ∙ name);
  tables = λ j used. ap is_some (sym (was (named now j))) ∙ ap (λ t. is_some (finite.get d.tables t)) (names j) ∙ holds.tables j (λ z. used (names j ∙ z));
  once = λ i j used alike. holds.once i j (λ z. used (names i ∙ z)) (sym (names i) ∙ alike ∙ names j);
  few = subst (λ m. finite.len m ≤ TABLE_LIMIT) (sym same) holds.few;
}
  where
    was : (t : ℕ) → finite.get d.tables t ≡ finite.get after.tables t
    was t = ap (λ m. finite.get m t) (sym same)

    sized : (t : ℕ) → now.size t ≡ c.size t
    sized t = ap (λ f. f t) size

    names : (j : ℕ) → named now j ≡ named c j
    names j = ap (λ l. (entry_in l j).table) entries

-- a change is made for which there is no cause against it, in this slot of a page of its chain
pub record Puts (d after : Donor) (c : Contents) (trx : ℕ) (change : Change) (page slot_number : ℕ) : Type 0 where
  pub made : Changes d trx change after
  pub lock : (finite.get d.locks (change.table, change.key) ≡ None) ⊎ (finite.get d.locks (change.table, change.key) ≡ Some trx)
  pub room : length (changes_of d trx) < CHANGE_LIMIT
  pub short : IfSome change.value (λ v. length v ≤ 64)
  pub row_slot : IsRowSlot d c change.table page slot_number change.key
  pub in_range : IsEntry (told change.table page change.key slot_number (value_of d change.table change.key))

module _ (d after : Donor) (c : Contents) (trx : ℕ) (change : Change) (number at : ℕ) (sound : IsSound d c) (g : Puts d after c trx change number at) where
  abbrev pub commit : Commit
  commit = g.made.commit

  abbrev pub e : UndoEntry
  e = told change.table number change.key at (value_of d change.table change.key)

  pub small : trx < 64
  small = sound.locked.few.numbers trx (ap is_some g.made.was_active)

  pub own : IsUndoSlot d c.slot commit (c.undo trx)
  own = own_slot d c.slot (finite.get d.active trx) (c.undo trx) commit g.made.was_active (sound.undo trx small)

  abbrev pub slot : UndoSlot
  slot = record { writer = commit.writer; index = commit.index; records = own.records }

  abbrev pub new : Contents
  new = changed trx slot e change.value c

  -- what the mini-transaction asks for
  pub may_change : MayChange c trx slot e change.value
  may_change =
      let here = g.row_slot in
      let sizes = sound.tables.sizes change.table here.count here.there in
      let some : 0 < here.count = omega (arith, sizes.3) in
      record {
        small = small;
        used = own.is;
        known = in_range c.slot (committed_rows d) commit.changes own.records own.tells;
        room = omega (arith, g.room, ap length (changes_of_active d trx commit g.made.was_active), counted c.slot (committed_rows d) commit.changes own.records own.tells);
        in_range = g.in_range;
        there = on_there sound.chains change.table here.count (change.key % here.count) number here.there (mod-lt change.key some) here.chain;
        short = g.short;
      }

  history : committed_rows after ≡ committed_rows d
  history = ap committed_rows g.made.is

  active : after.active ≡ finite.insert d.active trx (with_change change commit)
  active = ap (λ (x : Donor). x.active) g.made.is

  tables : after.tables ≡ d.tables
  tables = ap (λ (x : Donor). x.tables) g.made.is

  value : value_of after change.table change.key ≡ change.value
  value = changed_value sound.locked g.made

  sets : SetsSlot d after c change.table number at change.key
  sets = record { rows = sound.rows; tables = tables; row_slot = g.row_slot; others = λ t k other. changed_value_other sound.locked g.made t k other }

  -- the slot is set to the value that the row shows
  rows : HoldsRows after c.next new.slot × KeepsBound c.slot new.slot
  rows =
      subst (λ (v : Option (List ℕ)). HoldsRows after c.next (changed trx slot e v c).slot × KeepsBound c.slot (changed trx slot e v c).slot) value
      (rows_set d after c change.table number at change.key sets, kept d after c change.table number at change.key sets)

  tells : TellsChange new.slot (after_changes (committed_rows d) commit.changes) change e
  tells = record {
    in_range = g.in_range;
    table = refl;
    key = refl;
    bound = ap bound_key (slot-same change.table number at change.table number at (row_slot change.key change.value) c refl refl refl) ∙ bound-row_slot change.key change.value;
    before = told-value change.table number change.key at (value_of d change.table change.key) ∙ own_value d trx commit (change.table, change.key) sound.locked g.made.was_active g.lock;
  }

  own_now : IsUndoSlot after new.slot (with_change change commit) (new.undo trx)
  own_now = record {
    records = own.records ++ e ∷ [];
    is = set_at-same trx trx (telling slot (own.records ++ e ∷ [])) c.undo refl;
    tells = subst (λ r. TellsChanges new.slot r (commit.changes ++ change ∷ []) (own.records ++ e ∷ [])) (sym history)
        (tells_push new.slot (committed_rows d) commit.changes own.records change e (tells_on c.slot new.slot (committed_rows d) commit.changes own.records rows.1 own.tells) tells);
  }

  pub put_sound : IsSound after new
  put_sound = record {
    locked = changed_locked sound.locked g.made g.lock g.room;
    tables = same_tables d after c new tables refl refl sound.tables;
    chains = same_chains d after c new tables refl refl sound.chains;
    rows = rows.0;
    undo = λ s low. elim (cases_eq s trx) [
      | inl same ↦ subst (λ (n : ℕ). StandsFor after new.slot (finite.get after.active n) (new.undo n)) (sym same) (stands_open after new.slot (finite.get after.active trx) (new.undo trx) (with_change change commit) (own-set d after trx (with_change change commit) active) own_now)
      | inr other ↦ stands_still d after c.slot new.slot (finite.get d.active s) (finite.get after.active s) (c.undo s) (new.undo s) history rows.1 (others-set d after trx (with_change change commit) active s other)
          (set_at-other trx s (telling slot (own.records ++ e ∷ [])) c.undo other) (sound.undo s low)
    ];
    position = sound.position ∙ ap (λ (x : Donor). length x.binlog) (sym g.made.is);
  }

  pub same_count : length own.records ≡ length (changes_of d trx)
  same_count = counted c.slot (committed_rows d) commit.changes own.records own.tells ∙ sym (ap length (changes_of_active d trx commit g.made.was_active))
