-- What an undo record tells of a row counts where it is one of the row. Else it counts as one of an
-- absent row.
use Rattle.std.proofs.Common.{eq-eqb}
use Rattle.clone_trx.proofs.Common.{◌≡◌, ◌≤◌, ◌<◌, ◌^◌, ◌==◌, ◌&&◌, inl, inr, ℕ, Bool, true, false, List, length, refl, sym, ap, ◌∙◌, arith, None, nat_lt, nat_le, eqb-true, and_parts, and_from, ltb-true, leb-true, lt-ltb, le-leb, cond_both, cond-true, cond-false, false_from_ne_true, nil_from_length, MOST_PAGES, row_slot_count, UndoEntry, IsEntry, IsBefore, VALUE_LIMIT, Donor, page_number, told, tells_before, tells_of, before_change}

before_is : (e : UndoEntry) → tells_before e ≡ true → IsBefore e.state e.value
before_is e is = by (e.state == 1) refl
  where
    by : (b : Bool) → (e.state == 1) ≡ b → IsBefore e.state e.value
    by true one = inl (eqb-true e.state 1 one, leb-true (length e.value) VALUE_LIMIT (sym (cond-true (e.state == 1) (nat_le (length e.value) VALUE_LIMIT) ((e.state == 2) && (length e.value == 0)) one) ∙ is))
    by false other =
        let absent = and_parts (e.state == 2) (length e.value == 0) (sym (cond-false (e.state == 1) (nat_le (length e.value) VALUE_LIMIT) ((e.state == 2) && (length e.value == 0)) other) ∙ is) in
        inr (eqb-true e.state 2 absent.0, nil_from_length e.value (eqb-true (length e.value) 0 absent.1))

is_before : (e : UndoEntry) → IsBefore e.state e.value → tells_before e ≡ true
is_before e (inl present) = cond-true (e.state == 1) (nat_le (length e.value) VALUE_LIMIT) ((e.state == 2) && (length e.value == 0)) (eq-eqb e.state 1 present.0) ∙ le-leb (length e.value) VALUE_LIMIT present.1
is_before e (inr absent) =
    cond-false (e.state == 1) (nat_le (length e.value) VALUE_LIMIT) ((e.state == 2) && (length e.value == 0)) (ap (λ n. n == 1) absent.0)
    ∙ and_from (e.state == 2) (length e.value == 0) (eq-eqb e.state 2 absent.0) (ap (λ (v : List ℕ). length v == 0) absent.1)

-- an undo record is of this row
pub record IsOf (t k : ℕ) (e : UndoEntry) : Type 0 where
  pub table : e.table ≡ t
  pub key : e.key ≡ k

module _ (d : Donor) (table key : ℕ) (e : UndoEntry) where
  abbrev absent : UndoEntry
  absent = told table (page_number d table key) key 0 None

  of_row : tells_of table key e ≡ true → IsOf table key e × (e.page < MOST_PAGES) × (e.slot < row_slot_count) × IsBefore e.state e.value
  of_row is =
      let t = and_parts (e.table == table) _ is in
      let p = and_parts (nat_lt e.page MOST_PAGES) _ t.1 in
      let s = and_parts (nat_lt e.slot row_slot_count) _ p.1 in
      let k = and_parts (e.key == key) (tells_before e) s.1 in
      (record { table = eqb-true e.table table t.0; key = eqb-true e.key key k.0 }, ltb-true e.page MOST_PAGES p.0, ltb-true e.slot row_slot_count s.0, before_is e k.1)

  -- one of the row that is in its ranges counts
  pub before_same : IsOf table key e → IsEntry e → before_change d table key e ≡ e
  before_same o is =
      cond-true (tells_of table key e) e absent
      (and_from (e.table == table) _ (eq-eqb e.table table o.table) (and_from (nat_lt e.page MOST_PAGES) _ (lt-ltb e.page MOST_PAGES (omega (arith, is.row_slot.2)))
      (and_from (nat_lt e.slot row_slot_count) _ (lt-ltb e.slot row_slot_count is.row_slot.3) (and_from (e.key == key) (tells_before e) (eq-eqb e.key key o.key) (is_before e is.before)))))

  -- another doesn't
  pub before_other : (IsOf table key e → IsEntry e → ⊥) → 1 ≤ table → table ≤ 1000000 → key < 2 ^ 64 → before_change d table key e ≡ absent
  before_other not low high fits = cond-false (tells_of table key e) e absent (false_from_ne_true (tells_of table key e) (λ is.
      let o = of_row is in
      not o.0 (record { row_slot = (omega (arith, low, o.0.table), omega (arith, high, o.0.table), omega (arith, o.1), o.2); before = o.3; key = omega (arith, fits, o.0.key) })))

  pub before_of : IsOf table key (before_change d table key e)
  before_of = cond_both (tells_of table key e) e absent (IsOf table key) (λ is. (of_row is).0) (λ is. record { table = refl; key = refl })
