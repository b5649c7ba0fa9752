-- A table of which no row is locked is dropped, and the contents stay sound.
use Rattle.std.proofs.lemmas.Bool.{cases_lt}
use Rattle.std.specs.FinMap as finite
use Rattle.clone_contents.specs.Spaces.{dropped}
use Rattle.clone_trx.proofs.Common.{◌≡◌, ◌≢◌, ◌<◌, ◌≤◌, ◌-◌, ◌%◌, ℕ, suc, List, [], ◌∷◌, length, refl, sym, ap, subst, ◌∙◌, inl, inr, Option, Some, None, arith, is_some, slice_get, cond_both, get_or_past, len-remove, free, named, MayDrop, nat_cmp-IsAntisymmetric, nat_cmp_total, get-removed_same, get-removed_other, cases_eq, none-some, Rows, after_change, after_changes_same, Change, Commit, row_slot, bound_key, unused, UndoEntry, Contents, set_at-same, set_at-other, Donor, HoldsTables, HoldsChains, HoldsRows, OnChain, StandsFor, IsSound, TellsChanges, Slots, IsBound, IsLocked, committed_rows, value_of}
use Rattle.clone_trx.proofs.ChainLemmas.{same_chain}
use Rattle.clone_trx.proofs.DictionaryLemmas.{entry-written, entry-other}

-- what a drop leaves of a donor
pub record IsDropped (d : Donor) (table : ℕ) (after : Donor) : Type 0 where
  pub locked : IsLocked after
  pub tables : after.tables ≡ finite.remove d.tables table
  pub active : after.active ≡ d.active
  pub commits : length after.binlog ≡ length d.binlog
  pub gone : (key : ℕ) → value_of after table key ≡ None
  pub values : (other key : ℕ) → other ≢ table → value_of after other key ≡ value_of d other key
  pub rows : (other key : ℕ) → other ≢ table → finite.get (committed_rows after) (other, key) ≡ finite.get (committed_rows d) (other, key)
  -- no open transaction changed a row of it
  pub unlocked : (key : ℕ) → finite.get d.locks (table, key) ≡ None

-- undo records of other tables go on telling
tells_apart : (table : ℕ) (slot now : Slots) (rows after : Rows) (cs : List Change) (es : List UndoEntry) → ((i : ℕ) (x : Change) → slice_get cs i ≡ Some x → x.table ≢ table) → ((t page slot_number : ℕ) → t ≢ table → now t page slot_number ≡ slot t page slot_number)
    → ((t key : ℕ) → t ≢ table → finite.get after (t, key) ≡ finite.get rows (t, key)) → TellsChanges slot rows cs es → TellsChanges now after cs es
tells_apart table slot now rows after [] [] others slots same tells = tt
tells_apart table slot now rows after [] (e ∷ es) others slots same tells = absurd tells
tells_apart table slot now rows after (x ∷ cs) [] others slots same tells = absurd tells
tells_apart table slot now rows after (x ∷ cs) (e ∷ es) others slots same tells =
    let apart : x.table ≢ table = others 0 x refl in (
      record {
        in_range = tells.0.in_range;
        table = tells.0.table;
        key = tells.0.key;
        bound = ap bound_key (slots e.table e.page e.slot (λ is. apart (sym tells.0.table ∙ is))) ∙ tells.0.bound;
        before = tells.0.before ∙ sym (same x.table x.key apart);
      },
      tells_apart table slot now (after_change rows x) (after_change after x) cs es (λ i y at. others (suc i) y at) slots (λ t key other. after_changes_same after rows (x ∷ []) (t, key) (same t key other)) tells.1,
    )

module _ (d after : Donor) (c : Contents) (entry_number table : ℕ) (sound : IsSound d c) (may : MayDrop c entry_number table) (g : IsDropped d table after) where
  abbrev new : Contents
  new = dropped entry_number table c

  within : entry_number < length c.dictionary
  within =
      elim (cases_lt entry_number (length c.dictionary)) [
        | inl low ↦ low
        | inr high ↦ absurd (may.used (sym may.named ∙ ap (λ e. e.table) (get_or_past c.dictionary entry_number free high)))
      ]

  -- the entry names no table, and the others stay
  freed : (j : ℕ) → j ≡ entry_number → named new j ≡ 0
  freed j at = ap (λ e. e.table) (entry-written c.dictionary entry_number j free within at)

  used_apart : (j : ℕ) → named new j ≢ 0 → j ≢ entry_number
  used_apart j used at = used (freed j at)

  there : (j : ℕ) → j ≢ entry_number → named new j ≡ named c j
  there j apart = ap (λ e. e.table) (entry-other c.dictionary entry_number j free apart)

  -- no other entry names the table
  other_name : (j : ℕ) → j ≢ entry_number → named c j ≢ table
  other_name j apart is = apart (sound.tables.once j entry_number (λ zero. may.used (sym is ∙ zero)) (is ∙ sym may.named))

  removed : (t : ℕ) → t ≢ table → finite.get after.tables t ≡ finite.get d.tables t
  removed t apart = ap (λ m. finite.get m t) g.tables ∙ get-removed_other nat_cmp_total nat_cmp-IsAntisymmetric d.tables table t apart

  no_table : finite.get after.tables table ≡ None
  no_table = ap (λ m. finite.get m table) g.tables ∙ get-removed_same nat_cmp_total nat_cmp-IsAntisymmetric d.tables table

  -- a table that is there is another
  apart_from : (t count : ℕ) → finite.get after.tables t ≡ Some count → t ≢ table
  apart_from t count is same = none-some count (sym no_table ∙ ap (finite.get after.tables) (sym same) ∙ is)

  kept_size : (t : ℕ) → t ≢ table → new.size t ≡ c.size t
  kept_size t apart = set_at-other table t None c.size apart

  no_size : (t : ℕ) → t ≡ table → new.size t ≡ None
  no_size t same = set_at-same table t None c.size same

  kept_slot : (t page j : ℕ) → t ≢ table → new.slot t page j ≡ c.slot t page j
  kept_slot t page j apart = ap (λ f. f page j) (set_at-other table t (λ p i. unused) c.slot apart)

  no_slot : (t page j : ℕ) → t ≡ table → new.slot t page j ≡ unused
  no_slot t page j same = ap (λ f. f page j) (set_at-same table t (λ p i. unused) c.slot same)

  kept_next : (t : ℕ) → t ≢ table → new.next t ≡ c.next t
  kept_next t apart = set_at-other table t (λ p. None) c.next apart

  -- a slot that is bound is one of another table
  bound_apart : (t page j key : ℕ) → IsBound new.slot t page j key → t ≢ table
  bound_apart t page j key bound same = absurd (let e = sym bound ∙ ap bound_key (no_slot t page j same) in cc)

  was_bound : (t page j key : ℕ) → IsBound new.slot t page j key → IsBound c.slot t page j key
  was_bound t page j key bound = ap bound_key (sym (kept_slot t page j (bound_apart t page j key bound))) ∙ bound

  tables : HoldsTables after new
  tables = record {
    sizes = λ t count is.
        let apart = apart_from t count is in
        let had = sound.tables.sizes t count (sym (removed t apart) ∙ is) in
        (record { pages = had.0.pages; size = kept_size t apart ∙ had.0.size; enough = had.0.enough; most = had.0.most }, had.1, had.2, had.3, had.4);
    spaces = λ t first none. elim (cases_eq t table) [
      | inl same ↦ no_size t same
      | inr apart ↦ kept_size t apart ∙ sound.tables.spaces t first (sym (removed t apart) ∙ none)
    ];
    listed = λ t is. elim (cases_eq t table) [
      | inl same ↦ (let e = sym (ap is_some (ap (finite.get after.tables) same ∙ no_table)) ∙ is in cc)
      | inr apart ↦ (let had = sound.tables.listed t (ap is_some (sym (removed t apart)) ∙ is) in (had.0, there had.0 (λ at. apart (sym had.1 ∙ ap (named c) at ∙ may.named)) ∙ had.1))
    ];
    told = λ t count pages j is size_is names.
        let apart = apart_from t count is in
        let sizes = sound.tables.sizes t count (sym (removed t apart) ∙ is) in
        let other : j ≢ entry_number = used_apart j (λ zero. omega (arith, sizes.1, sym names ∙ zero)) in
        entry-other c.dictionary entry_number j free other ∙ sound.tables.told t count pages j (sym (removed t apart) ∙ is) (sym (kept_size t apart) ∙ size_is) (sym (there j other) ∙ names);
    tables = λ j used.
        let other = used_apart j used in
        ap (λ t. is_some (finite.get after.tables t)) (there j other) ∙ ap is_some (removed (named c j) (other_name j other)) ∙ sound.tables.tables j (λ zero. used (there j other ∙ zero));
    once = λ i j used same.
        let one = used_apart i used in
        let two = used_apart j (λ zero. used (same ∙ zero)) in
        sound.tables.once i j (λ zero. used (there i one ∙ zero)) (sym (there i one) ∙ same ∙ there j two);
    few = subst (λ m. finite.len m ≤ 62) (sym g.tables) (subst (λ n. n ≤ 62) (sym (len-remove nat_cmp_total d.tables table)) (cond_both (finite.contains_key d.tables table) (finite.len d.tables - 1) (finite.len d.tables) (λ n. n ≤ 62) (λ _. omega (arith, sound.tables.few)) (λ _. sound.tables.few)));
  }

  chains : HoldsChains after new
  chains = record {
    buckets = λ t count bucket is below. let apart = apart_from t count is in same_chain c new t bucket (kept_size t apart) (kept_next t apart) (sound.chains.buckets t count bucket (sym (removed t apart) ∙ is) below);
    none = λ t page gone. elim (cases_eq t table) [
      | inl same ↦ ap (λ f. f page) (set_at-same table t (λ p. None) c.next same)
      | inr apart ↦ ap (λ f. f page) (kept_next t apart) ∙ sound.chains.none t page (λ had. gone (had.0, kept_size t apart ∙ had.1, had.2))
    ];
  }

  rows : HoldsRows after new.next new.slot
  rows = record {
    shown = λ t page j key bound.
        let apart = bound_apart t page j key bound in
        kept_slot t page j apart ∙ sound.rows.shown t page j key (was_bound t page j key bound) ∙ ap (row_slot key) (sym (g.values t key apart));
    clean = λ t page j none. elim (cases_eq t table) [
      | inl same ↦ no_slot t page j same
      | inr apart ↦ kept_slot t page j apart ∙ sound.rows.clean t page j (ap bound_key (sym (kept_slot t page j apart)) ∙ none)
    ];
    own = λ t page j key bound.
        let apart = bound_apart t page j key bound in
        let had = sound.rows.own t page j key (was_bound t page j key bound) in
        (had.0, removed t apart ∙ had.1, subst (λ f. OnChain f (key % had.0) page) (sym (kept_next t apart)) had.2);
    once = λ t key p i q j one two. sound.rows.once t key p i q j (was_bound t p i key one) (was_bound t q j key two);
    found = λ t key value is. elim (cases_eq t table) [
      | inl same ↦ absurd (none-some value (sym (g.gone key) ∙ ap (λ n. value_of after n key) (sym same) ∙ is))
      | inr apart ↦ (let had = sound.rows.found t key value (sym (g.values t key apart) ∙ is) in (had.0, had.1, ap bound_key (kept_slot t had.0 had.1 apart) ∙ had.2))
    ];
  }

  -- each change of an open transaction is of a row that is locked, so of another table
  changed_apart : (trx : ℕ) (commit : Commit) (i : ℕ) (x : Change) → finite.get d.active trx ≡ Some commit → slice_get commit.changes i ≡ Some x → x.table ≢ table
  changed_apart trx commit i x is at same = none-some trx (sym (g.unlocked x.key) ∙ ap (λ t. finite.get d.locks (t, x.key)) (sym same) ∙ sound.locked.own trx commit i x is at)

  stands : (trx : ℕ) (o : Option Commit) → finite.get d.active trx ≡ o → StandsFor d c.slot o (c.undo trx) → StandsFor after new.slot o (c.undo trx)
  stands trx None is free_slot = free_slot
  stands trx (Some commit) is own = record {
    records = own.records;
    is = own.is;
    tells = tells_apart table c.slot new.slot (committed_rows d) (committed_rows after) commit.changes own.records (λ i x at. changed_apart trx commit i x is at) kept_slot g.rows own.tells;
  }

  pub dropped_sound : IsSound after new
  dropped_sound = record {
    locked = g.locked;
    tables = tables;
    chains = chains;
    rows = rows;
    undo = λ s low. subst (λ o. StandsFor after new.slot o (c.undo s)) (sym (ap (λ m. finite.get m s) g.active)) (stands s (finite.get d.active s) refl (sound.undo s low));
    position = sound.position ∙ sym g.commits;
  }
