-- A table is made, and the contents stay sound.
use Rattle.clone_trx.proofs.Common.{◌≡◌, ◌≢◌, ◌<◌, ◌≤◌, ◌+◌, ◌⊎◌, ℕ, length, cond, refl, sym, ap, subst, ◌∙◌, inl, inr, Option, Some, None, IsSome, arith, is_some, nat_cmp-IsAntisymmetric, len-insert, nat_cmp_total, cases_eq, same_Some, none-some, Contents, set_at-same, set_at-other, TABLE_LIMIT, Donor, HoldsTables, HoldsChains, IsSound, get-set_same, get-set_other, TableEntry, entry_in, named}
use Rattle.std.specs.FinMap as finite
use Rattle.clone_contents.specs.Steps as contents
use Rattle.clone_plain.specs.Effects as plain
use Rattle.clone_trx.proofs.ChainLemmas.{alone, same_chain}
use Rattle.clone_trx.proofs.DictionaryLemmas.{entry-written, entry-other}
use Rattle.clone_trx.proofs.UndoRecordLemmas.{stands_still}

module _ (d : Donor) (c : Contents) (entry_number table buckets : ℕ) (sound : IsSound d c) (none : finite.get d.tables table ≡ None) (free : named c entry_number ≡ 0) (within : entry_number < length c.dictionary) (room : finite.len d.tables < TABLE_LIMIT) (behind : table ≢ 0) (low : 1 ≤ table) (high : table ≤ 1000000) (some : 1 ≤ buckets) (few : buckets ≤ 1024) where
  abbrev after : Donor
  after = plain.created table buckets d

  own : finite.get after.tables table ≡ Some buckets
  own = get-set_same nat_cmp_total nat_cmp-IsAntisymmetric d.tables table buckets

  other : (t : ℕ) → t ≢ table → finite.get after.tables t ≡ finite.get d.tables t
  other t apart = get-set_other nat_cmp_total nat_cmp-IsAntisymmetric d.tables table buckets t apart

  still : (t count : ℕ) → finite.get d.tables t ≡ Some count → finite.get after.tables t ≡ Some count
  still t count is = other t (λ same. none-some count (sym none ∙ ap (finite.get d.tables) (sym same) ∙ is)) ∙ is

  -- so many buckets has the table
  mine : (t count : ℕ) → t ≡ table → finite.get after.tables t ≡ Some count → buckets ≡ count
  mine t count same is = same_Some buckets count (sym own ∙ ap (finite.get after.tables) (sym same) ∙ is)

  longer : finite.len after.tables ≡ finite.len d.tables + 1
  longer = len-insert nat_cmp_total d.tables table buckets ∙ ap (λ o. cond (is_some o) (finite.len d.tables) (finite.len d.tables + 1)) none

  abbrev entry : TableEntry
  entry = record { table = table; buckets = buckets; pages = buckets }

  abbrev new : Contents
  new = contents.created entry_number table buckets c

  here : (j : ℕ) → j ≡ entry_number → named new j ≡ table
  here j same = ap (λ (e : TableEntry). e.table) (entry-written c.dictionary entry_number j entry within same)

  there : (j : ℕ) → j ≢ entry_number → named new j ≡ named c j
  there j apart = ap (λ (e : TableEntry). e.table) (entry-other c.dictionary entry_number j entry apart)

  -- no other entry names the table
  unnamed : (j : ℕ) → named c j ≢ table
  unnamed j is = let found = sound.tables.tables j (λ z. behind (sym is ∙ z)) in let e = sym (ap (λ t. is_some (finite.get d.tables t)) is ∙ ap is_some none) ∙ found in cc

  sized : (t : ℕ) → t ≡ table → new.size t ≡ Some buckets
  sized t same = set_at-same table t (Some buckets) c.size same

  kept_size : (t : ℕ) → t ≢ table → new.size t ≡ c.size t
  kept_size t apart = set_at-other table t (Some buckets) c.size apart

  tables : HoldsTables after new
  tables = record {
    sizes = λ t count is. elim (cases_eq t table) [
      | inl same ↦ (let n = mine t count same is in
          (record { pages = count; size = sized t same ∙ ap (λ m. Some m) n; enough = omega arith; most = omega (arith, n, few) }, subst (λ m. 1 ≤ m) (sym same) low, subst (λ m. m ≤ 1000000) (sym same) high, subst (λ m. 1 ≤ m) n some, subst (λ m. m ≤ 1024) n few))
      | inr apart ↦ (let had = sound.tables.sizes t count (sym (other t apart) ∙ is) in (record { pages = had.0.pages; size = kept_size t apart ∙ had.0.size; enough = had.0.enough; most = had.0.most }, had.1, had.2, had.3, had.4))
    ];
    spaces = λ t first gone. elim (cases_eq t table) [
      | inl same ↦ absurd (none-some buckets (sym gone ∙ ap (finite.get after.tables) same ∙ own))
      | inr apart ↦ kept_size t apart ∙ sound.tables.spaces t first (sym (other t apart) ∙ gone)
    ];
    listed = λ t is. elim (cases_eq t table) [
      | inl same ↦ (entry_number, here entry_number refl ∙ sym same)
      | inr apart ↦ (let had = sound.tables.listed t (ap is_some (sym (other t apart)) ∙ is) in (had.0, there had.0 (λ e. used t had.0 had.1 e (ap is_some (sym (other t apart)) ∙ is)) ∙ had.1))
    ];
    told = λ t count pages j is size_is names. told t count pages j is size_is names (cases_eq t table) (cases_eq j entry_number);
    tables = λ j names. elim (cases_eq j entry_number) [
      | inl same ↦ ap (λ t. is_some (finite.get after.tables t)) (here j same) ∙ ap is_some own
      | inr apart ↦ ap (λ t. is_some (finite.get after.tables t)) (there j apart) ∙ ap is_some (other (named c j) (unnamed j)) ∙ sound.tables.tables j (λ z. names (there j apart ∙ z))
    ];
    once = λ i j names same. once i j names same (cases_eq i entry_number) (cases_eq j entry_number);
    few = omega (arith, longer, room);
  }
    where
      -- the free entry named no table
      used : (t j : ℕ) → named c j ≡ t → j ≡ entry_number → IsSome (finite.get d.tables t) → ⊥
      used t j is e found = let zero : t ≡ 0 = sym is ∙ ap (named c) e ∙ free in no_zero (ap (λ m. is_some (finite.get d.tables m)) (sym zero) ∙ found)
        where
          no_zero : IsSome (finite.get d.tables 0) → ⊥
          no_zero there = at (finite.get d.tables 0) refl there
            where
              at : (o : Option ℕ) → finite.get d.tables 0 ≡ o → IsSome (finite.get d.tables 0) → ⊥
              at None gone there = let e = sym (ap is_some gone) ∙ there in cc
              at (Some count) is there = absurd (let sizes = sound.tables.sizes 0 count is in omega (arith, sizes.1))

      -- the entry of a table tells its buckets and its pages
      told : (t count pages j : ℕ) → finite.get after.tables t ≡ Some count → new.size t ≡ Some pages → named new j ≡ t → (t ≡ table) ⊎ (t ≢ table) → (j ≡ entry_number) ⊎ (j ≢ entry_number) → entry_in new.dictionary j ≡ record { table = t; buckets = count; pages = pages }
      told t count pages j is size_is names (inl same) (inl at) =
          let n = mine t count same is in
          let p : buckets ≡ pages = same_Some buckets pages (sym (sized t same) ∙ size_is) in
          entry-written c.dictionary entry_number j entry within at ∙ (λ i. record { table = sym same i; buckets = n i; pages = p i })
      told t count pages j is size_is names (inl same) (inr off) = absurd (unnamed j (sym (there j off) ∙ names ∙ same))
      told t count pages j is size_is names (inr apart) (inl at) = absurd (apart (sym names ∙ here j at))
      told t count pages j is size_is names (inr apart) (inr off) =
          entry-other c.dictionary entry_number j entry off ∙ sound.tables.told t count pages j (sym (other t apart) ∙ is) (sym (kept_size t apart) ∙ size_is) (sym (there j off) ∙ names)

      once : (i j : ℕ) → named new i ≢ 0 → named new i ≡ named new j → (i ≡ entry_number) ⊎ (i ≢ entry_number) → (j ≡ entry_number) ⊎ (j ≢ entry_number) → i ≡ j
      once i j names same (inl a) (inl b) = a ∙ sym b
      once i j names same (inl a) (inr b) = absurd (unnamed j (sym (there j b) ∙ sym same ∙ here i a))
      once i j names same (inr a) (inl b) = absurd (unnamed i (sym (there i a) ∙ same ∙ here j b))
      once i j names same (inr a) (inr b) = sound.tables.once i j (λ z. names (there i a ∙ z)) (sym (there i a) ∙ same ∙ there j b)

  chains : HoldsChains after new
  chains = record {
    buckets = λ t count bucket is below. elim (cases_eq t table) [
      | inl same ↦ (let n = mine t count same is in
          alone new t bucket (buckets, sized t same, omega (arith, n, below)) (sound.chains.none t bucket (λ had. none-some had.0 (sym (ap c.size same ∙ sound.tables.spaces table behind none) ∙ had.1))))
      | inr apart ↦ same_chain c new t bucket (kept_size t apart) refl (sound.chains.buckets t count bucket (sym (other t apart) ∙ is) below)
    ];
    none = λ t page gone. elim (cases_eq t table) [
      | inl same ↦ sound.chains.none t page (λ had. none-some had.0 (sym (ap c.size same ∙ sound.tables.spaces table behind none) ∙ had.1))
      | inr apart ↦ sound.chains.none t page (λ had. gone (had.0, kept_size t apart ∙ had.1, had.2))
    ];
  }

  pub created_sound : IsSound after new
  created_sound = record {
    locked = record { few = sound.locked.few; own = sound.locked.own; holders = sound.locked.holders; drops = sound.locked.drops };
    tables = tables;
    chains = chains;
    rows = record {
      shown = sound.rows.shown;
      clean = sound.rows.clean;
      own = λ t p j key bound. let had = sound.rows.own t p j key bound in (had.0, still t had.0 had.1, had.2);
      once = sound.rows.once;
      found = sound.rows.found;
    };
    undo = λ s within. stands_still d after c.slot c.slot (finite.get d.active s) (finite.get d.active s) (c.undo s) (c.undo s) refl (λ t p j key was. was) refl refl (sound.undo s within);
    position = sound.position;
  }
