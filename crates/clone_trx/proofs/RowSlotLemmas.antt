-- The rows of the contents when one slot is set.
use Rattle.clone_trx.proofs.Common.{◌≡◌, ◌%◌, ◌⊎◌, ℕ, List, refl, sym, ap, subst, ◌∙◌, inl, inr, Option, Some, None, same_Some, row_slot, bound_key, unused, Contents, with_slot, cases_slot, slot-same, slot-other, Donor, Slots, IsBound, IsNowhere, IsRowSlot, OnChain, HoldsRows, value_of, cases_row}
use Rattle.std.specs.FinMap as finite

pub bound-row_slot : (key : ℕ) (value : Option (List ℕ)) → bound_key (row_slot key value) ≡ Some key
bound-row_slot key (Some value) = refl
bound-row_slot key None = refl

-- keys that are bound stay so
abbrev pub KeepsBound : Slots → Slots → Type 0
KeepsBound slot now = (table page slot_number key : ℕ) → IsBound slot table page slot_number key → IsBound now table page slot_number key

-- One row shows another value, in its slot, and no other row does.
pub record SetsSlot (d after : Donor) (c : Contents) (t p j key : ℕ) : Type 0 where
  pub rows : HoldsRows d c.next c.slot
  pub tables : after.tables ≡ d.tables
  pub row_slot : IsRowSlot d c t p j key
  pub others : (table k : ℕ) → (table ≡ t → k ≡ key → ⊥) → value_of after table k ≡ value_of d table k

module _ (d after : Donor) (c : Contents) (t p j key : ℕ) (g : SetsSlot d after c t p j key) where
  abbrev now : Slots
  now = (with_slot t p j (row_slot key (value_of after t key)) c).slot

  abbrev IsElsewhere : ℕ → ℕ → ℕ → Type 0
  IsElsewhere u n i = u ≡ t → n ≡ p → i ≡ j → ⊥

  here : (u n i : ℕ) → (u ≡ t) × (n ≡ p) × (i ≡ j) → now u n i ≡ row_slot key (value_of after t key)
  here u n i is = slot-same t p j u n i (row_slot key (value_of after t key)) c is.0 is.1 is.2

  elsewhere : (u n i : ℕ) → IsElsewhere u n i → now u n i ≡ c.slot u n i
  elsewhere u n i other = slot-other t p j u n i (row_slot key (value_of after t key)) c other

  bound_here : (u n i : ℕ) → (u ≡ t) × (n ≡ p) × (i ≡ j) → IsBound now u n i key
  bound_here u n i is = ap bound_key (here u n i is) ∙ bound-row_slot key (value_of after t key)

  -- a key that is bound now is the one that was set, or was bound before
  was : (u n i k : ℕ) → IsBound now u n i k → ((u ≡ t) × (n ≡ p) × (i ≡ j) × (k ≡ key)) ⊎ (IsElsewhere u n i × IsBound c.slot u n i k)
  was u n i k bound =
      elim (cases_slot u n i t p j) [
        | inl is ↦ inl (is.0, is.1, is.2, same_Some k key (sym bound ∙ bound_here u n i is))
        | inr other ↦ inr (other, sym (ap bound_key (elsewhere u n i other)) ∙ bound)
      ]

  -- no other slot of the table is bound to the key
  alone : (n i : ℕ) → IsElsewhere t n i → IsBound c.slot t n i key → ⊥
  alone n i other bound =
      elim g.row_slot.may [
        | inl had ↦ (let same = g.rows.once t key n i p j bound had in other refl same.0 same.1)
        | inr new ↦ new.1 n i bound
      ]

  alone_in : (u n i k : ℕ) → IsElsewhere u n i → IsBound c.slot u n i k → u ≡ t → k ≡ key → ⊥
  alone_in u n i k other bound table is = alone n i (λ x y z. other table y z) (ap (λ m. bound_key (c.slot m n i)) (sym table) ∙ bound ∙ ap (λ m. Some m) is)

  pub kept : KeepsBound c.slot now
  kept u n i k bound =
      elim (cases_slot u n i t p j) [
        | inr other ↦ ap bound_key (elsewhere u n i other) ∙ bound
        | inl is ↦ bound_here u n i is ∙ sym (at g.row_slot.may is)
      ]
    where
      at : IsBound c.slot t p j key ⊎ ((c.slot t p j ≡ unused) × IsNowhere c.slot t key) → (u ≡ t) × (n ≡ p) × (i ≡ j) → ◌≡◌ {A = Option ℕ} (Some k) (Some key)
      at (inl had) is = sym bound ∙ (λ x. bound_key (c.slot (is.0 x) (is.1 x) (is.2 x))) ∙ had
      at (inr new) is = absurd (let e = sym bound ∙ (λ x. bound_key (c.slot (is.0 x) (is.1 x) (is.2 x))) ∙ ap bound_key new.0 in cc)

  shown : (u n i k : ℕ) → IsBound now u n i k → now u n i ≡ row_slot k (value_of after u k)
  shown u n i k bound =
      elim (was u n i k bound) [
        | inl is ↦ here u n i (is.0, is.1, is.2) ∙ (λ x. row_slot (sym is.3 x) (value_of after (sym is.0 x) (sym is.3 x)))
        | inr old ↦ elsewhere u n i old.0 ∙ g.rows.shown u n i k old.1 ∙ ap (row_slot k) (sym (g.others u k (alone_in u n i k old.0 old.1)))
      ]

  clean : (u n i : ℕ) → bound_key (now u n i) ≡ None → now u n i ≡ unused
  clean u n i none =
      elim (cases_slot u n i t p j) [
        | inl is ↦ absurd (let e = sym none ∙ bound_here u n i is in cc)
        | inr other ↦ elsewhere u n i other ∙ g.rows.clean u n i (sym (ap bound_key (elsewhere u n i other)) ∙ none)
      ]

  own : (u n i k : ℕ) → IsBound now u n i k → (count : ℕ) × (finite.get after.tables u ≡ Some count) × OnChain (c.next u) (k % count) n
  own u n i k bound =
      elim (was u n i k bound) [
        | inl is ↦ (let on = subst (λ (x : ℕ × ℕ × ℕ). OnChain (c.next x.0) (x.2 % g.row_slot.count) x.1) (λ x. (sym is.0 x, sym is.1 x, sym is.3 x)) g.row_slot.chain in
            (g.row_slot.count, ap (λ m. finite.get m u) g.tables ∙ ap (finite.get d.tables) is.0 ∙ g.row_slot.there, on))
        | inr old ↦ (let had = g.rows.own u n i k old.1 in (had.0, ap (λ m. finite.get m u) g.tables ∙ had.1, had.2))
      ]

  once : (u k n i m l : ℕ) → IsBound now u n i k → IsBound now u m l k → (n ≡ m) × (i ≡ l)
  once u k n i m l one two = at (was u n i k one) (was u m l k two)
    where
      at : ((u ≡ t) × (n ≡ p) × (i ≡ j) × (k ≡ key)) ⊎ (IsElsewhere u n i × IsBound c.slot u n i k) → ((u ≡ t) × (m ≡ p) × (l ≡ j) × (k ≡ key)) ⊎ (IsElsewhere u m l × IsBound c.slot u m l k) → (n ≡ m) × (i ≡ l)
      at (inl a) (inl b) = (a.1 ∙ sym b.1, a.2 ∙ sym b.2)
      at (inl a) (inr b) = absurd (alone_in u m l k b.0 b.1 a.0 a.3)
      at (inr a) (inl b) = absurd (alone_in u n i k a.0 a.1 b.0 b.3)
      at (inr a) (inr b) = g.rows.once u k n i m l a.1 b.1

  found : (u k : ℕ) (value : List ℕ) → value_of after u k ≡ Some value → (n : ℕ) × (i : ℕ) × IsBound now u n i k
  found u k value is =
      elim (cases_row (u, k) (t, key)) [
        | inl same ↦ (p, j, bound_here u p j (ap (λ (x : ℕ × ℕ). x.0) same, refl, refl) ∙ ap (λ (x : ℕ × ℕ). Some x.1) (sym same))
        | inr other ↦ (let had = g.rows.found u k value (sym (g.others u k (λ x y. other (λ i. (x i, y i)))) ∙ is) in (had.0, had.1, kept u had.0 had.1 k had.2))
      ]

  pub rows_set : HoldsRows after c.next now
  rows_set = record { shown = shown; clean = clean; own = own; once = once; found = found }
