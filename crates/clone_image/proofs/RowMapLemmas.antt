-- Rows that are added to a map, one after the other.
use Rattle.std.proofs.Common.{◌≡◌, ◌<◌, ◌+◌, ℕ, List, ◌⊎◌, inl, inr, refl, sym, ap, ◌∙◌, subst, arith, cond, Bool, true, false, Some, IsSome, is_some, length, get_or, IsSomeAnd}
use Rattle.std.proofs.lemmas.Option.{same_Some, some_pair_parts, slice_get_read}
use Rattle.std.specs.declared.option.Option.{Option}
use Rattle.std.specs.FinMap as finite
use Rattle.std.specs.FinMap.{get-insert}
use Rattle.std.specs.Cmp.{eq_by_cmp_equiv, Equal-is}
use Rattle.std.specs.Ordering.{eq_by_cmp}
use Rattle.clone_model.specs.Keys.{row_cmp}
use Rattle.clone_model.specs.History.{Row, Rows}
use Rattle.clone_model.proofs.RowMaps.{row_cmp_total, row_cmp_exact}
use Rattle.clone_page.specs.Slots.{row_slot_count, slot, row_of}
use Rattle.clone_image.specs.Rows.{HoldsSlots}
use Rattle.clone_image.specs.Added.{Adds, Below, InSlot, InPage, AtPage}

-- nothing to add
pub adds_nothing : (rows : Rows) (Found : Row → Type 0) → ((row : Row) → Found row → ⊥) → Adds rows rows Found
adds_nothing rows Found none = record {
  sound = λ t k v e. inl e;
  stays = λ t k h. h;
  complete = λ t k v f. absurd (none (t, k, v) f);
}

-- the same rows in other words
pub adds_same : (old new : Rows) (Found Other : Row → Type 0) → Adds old new Found → ((row : Row) → Found row → Other row) → ((row : Row) → Other row → Found row) → Adds old new Other
adds_same old new Found Other is to from = record {
  sound = λ t k v e. elim (is.sound t k v e) [ inl o ↦ inl o | inr f ↦ inr (to (t, k, v) f) ];
  stays = is.stays;
  complete = λ t k v f. is.complete t k v (from (t, k, v) f);
}

-- no index is below 0
pub adds_none : (rows : Rows) (At : ℕ → Row → Type 0) → Adds rows rows (Below 0 At)
adds_none rows At = adds_nothing rows (Below 0 At) (λ row f. let no_index : f.index < 0 = f.within in absurd (omega arith))

above : (n i : ℕ) → n < i + 1 → (n < i) ⊎ (n ≡ i)
above n i lt = grind arith

-- the rows of one index more
pub adds_next : (old middle new : Rows) (At : ℕ → Row → Type 0) (i : ℕ) → Adds old middle (Below i At) → Adds middle new (At i) → Adds old new (Below (i + 1) At)
adds_next old middle new At i first second = record {
  sound = λ t k v e. elim (second.sound t k v e) [
    | inl m ↦ elim (first.sound t k v m) [ inl o ↦ inl o | inr f ↦ inr (further (t, k, v) f) ]
    | inr f ↦ inr (here (t, k, v) f)
  ];
  stays = λ t k h. second.stays t k (first.stays t k h);
  complete = λ t k v f. elim (above f.index i f.within) [
    | inl lt ↦ second.stays t k (first.complete t k v (record { index = f.index; within = lt; held = f.held }))
    | inr e ↦ second.complete t k v (subst (λ n. At n (t, k, v)) e f.held)
  ];
}
  where
    further : (row : Row) → Below i At row → Below (i + 1) At row
    further row f = record { index = f.index; within = let lt : f.index < i = f.within in omega arith; held = f.held }

    here : (row : Row) → At i row → Below (i + 1) At row
    here row f = record { index = i; within = omega arith; held = f }

chosen : (b : Bool) (v w : List ℕ) (o : Option (List ℕ)) → cond b (Some v) o ≡ Some w → (o ≡ Some w) ⊎ ((b ≡ true) × (v ≡ w))
chosen true v w o e = inr (refl, same_Some v w e)
chosen false v w o e = inl e

stays_some : (b : Bool) (v : List ℕ) (o : Option (List ℕ)) → IsSome o → IsSome (cond b (Some v) o)
stays_some true v o h = refl
stays_some false v o h = h

moved : (table key t k : ℕ) (value v : List ℕ) (Found : Row → Type 0) → table ≡ t → key ≡ k → value ≡ v → Found (table, key, value) → Found (t, k, v)
moved table key t k value v Found a b e f =
    let first : Found (t, key, value) = subst (λ n. Found (n, key, value)) a f in
    let second : Found (t, k, value) = subst (λ n. Found (t, n, value)) b first in
    subst (λ x. Found (t, k, x)) e second

same_pair : (t k table key : ℕ) → eq_by_cmp row_cmp (t, k) (table, key) ≡ true → (t ≡ table) × (k ≡ key)
same_pair t k table key e =
    let same = row_cmp_exact (t, k) (table, key) ((Equal-is (row_cmp (t, k) (table, key))).0 e) in
    (ap (λ (q : ℕ × ℕ). q.0) same, ap (λ (q : ℕ × ℕ). q.1) same)

get_there : (rows : Rows) (table key : ℕ) (value : List ℕ) → finite.get (finite.insert rows (table, key) value) (table, key) ≡ Some value
get_there rows table key value =
    get-insert row_cmp_total rows (table, key) value (table, key) ∙ ap (λ b. cond b (Some value) (finite.get rows (table, key))) ((eq_by_cmp_equiv row_cmp_total).refl (table, key))

-- one row is set
pub adds_one : (rows : Rows) (table key : ℕ) (value : List ℕ) (Found : Row → Type 0) → Found (table, key, value) → ((row : Row) → Found row → (row.0 ≡ table) × (row.1 ≡ key)) → Adds rows (finite.insert rows (table, key) value) Found
adds_one rows table key value Found here only = record {
  sound = λ t k v e. elim (chosen (eq_by_cmp row_cmp (t, k) (table, key)) value v (finite.get rows (t, k)) (sym (at t k) ∙ e)) [
    | inl o ↦ inl o
    | inr w ↦ let same = same_pair t k table key w.0 in inr (moved table key t k value v Found (sym same.0) (sym same.1) w.1 here)
  ];
  stays = λ t k h. subst IsSome (sym (at t k)) (stays_some (eq_by_cmp row_cmp (t, k) (table, key)) value (finite.get rows (t, k)) h);
  complete = λ t k v f.
      let is = only (t, k, v) f in
      ap (λ n. is_some (finite.get (finite.insert rows (table, key) value) (n, k))) is.0
      ∙ ap (λ n. is_some (finite.get (finite.insert rows (table, key) value) (table, n))) is.1
      ∙ ap is_some (get_there rows table key value);
}
  where
    at : (t k : ℕ) → finite.get (finite.insert rows (table, key) value) (t, k) ≡ cond (eq_by_cmp row_cmp (t, k) (table, key)) (Some value) (finite.get rows (t, k))
    at t k = get-insert row_cmp_total rows (table, key) value (t, k)

-- the row that a slot holds
pub adds_slot : (rows new : Rows) (table slot_number : ℕ) (page : List ℕ) (key : ℕ) (value : List ℕ) → Some (key, value) ≡ row_of (slot slot_number page) → new ≡ finite.insert rows (table, key) value → Adds rows new (InSlot table page slot_number)
adds_slot rows new table slot_number page key value is set =
    subst (λ m. Adds rows m (InSlot table page slot_number)) (sym set)
    (adds_one rows table key value (InSlot table page slot_number) (record { own = refl; held = sym is }) (λ row f. (f.own, (some_pair_parts row.1 key row.2 value (sym f.held ∙ sym is)).0)))

-- the page with this number
pub adds_page : (old new : Rows) (table i : ℕ) (pages : List (List ℕ)) (page : List ℕ) → i < length pages → page ≡ get_or pages i page → Adds old new (InPage table page) → Adds old new (AtPage table pages i)
adds_page old new table i pages page lt is adds =
    let there = slice_get_read pages (length pages) i page refl lt is in
    adds_same old new (InPage table page) (AtPage table pages i) adds
    (λ row h. subst (λ o. IsSomeAnd o (λ p. InPage table p row)) (sym there) h)
    (λ row h. subst (λ o. IsSomeAnd o (λ p. InPage table p row)) there h)

-- a page of a kind that holds slots
pub adds_kind : (old new : Rows) (table : ℕ) (page : List ℕ) → HoldsSlots page → Adds old new (Below row_slot_count (InSlot table page)) → Adds old new (InPage table page)
adds_kind old new table page kind adds =
    adds_same old new (Below row_slot_count (InSlot table page)) (InPage table page) adds (λ row h. record { kind = kind; slots = h }) (λ row h. h.slots)
