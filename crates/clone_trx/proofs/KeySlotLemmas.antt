-- What the slot of a row tells of the row: where its page is, and the value that the slot shows.
use Rattle.clone_trx.proofs.Common.{◌≡◌, ◌≢◌, ◌<◌, ◌≤◌, ◌%◌, ℕ, List, refl, sym, ap, ◌∙◌, inl, inr, Option, Some, None, IsSome, arith, is_some, option_map, unwrap_or, mod-lt, slots, slot_in, row_in, row_slot, Image, page_of, Contents, contents_of, page_there, Donor, value_of, held_value, page_number, AreTables, IsNowhere, IsRowSlot, HasPage, IsKept, slot_on}
use Rattle.std.specs.FinMap as finite
use Rattle.clone_row.specs.Slots.{Slot}
use Rattle.clone_trx.proofs.ChainLemmas.{on_there}

-- a bucket's page is in the ranges of its table
pub in_ranges : (d : Donor) (t key count : ℕ) → AreTables d.tables → finite.get d.tables t ≡ Some count → (1 ≤ t) × (t ≤ 1000000) × (page_number d t key < 65536)
in_ranges d t key count are is =
    let r = are.ranges t count is in
    let some : 0 < count = omega (arith, r.2) in
    (r.0, r.1, omega (arith, mod-lt key some, r.3, ap (λ (o : Option ℕ). key % unwrap_or o 0) is))

module _ (d : Donor) (image : Image) (t key : ℕ) (is : IsKept d image) where
  abbrev c : Contents
  c = contents_of image

  pub in_use : (count : ℕ) → finite.get d.tables t ≡ Some count → t ≢ 0
  in_use count there none = omega (arith, none, (is.sound.tables.sizes t count there).1)

  -- a key that is bound nowhere has no value
  pub no_value : IsNowhere c.slot t key → value_of d t key ≡ None
  no_value nowhere = at (value_of d t key) refl
    where
      at : (o : Option (List ℕ)) → value_of d t key ≡ o → value_of d t key ≡ None
      at None none = none
      at (Some value) some = let found = is.sound.rows.found t key value some in absurd (nowhere found.0 found.1 found.2)

  module _ (p j : ℕ) (slot : IsRowSlot d c t p j key) where
    pub slot_page : HasPage c t p
    slot_page =
        let sizes = is.sound.tables.sizes t slot.count slot.there in
        on_there is.sound.chains t slot.count (key % slot.count) p slot.there (mod-lt key (omega (arith, sizes.3))) slot.chain

    pub slot_there : IsSome (page_of image t p)
    slot_there = ap is_some (page_there image t p slot_page).1

    -- the value that the slot shows
    pub held_is : (page : List ℕ) → page_of image t p ≡ Some page → held_value page j ≡ value_of d t key
    held_is page there = elim slot.may [
      | inl bound ↦ ap value_in (sym on_page ∙ is.sound.rows.shown t p j key bound) ∙ held (value_of d t key)
      | inr new ↦ ap value_in (sym on_page ∙ new.0) ∙ sym (no_value new.1)
    ]
      where
        value_in : Slot → Option (List ℕ)
        value_in s = option_map (λ (row : ℕ × List ℕ). row.1) (row_in s)

        on_page : c.slot t p j ≡ slot_in (slots page) j
        on_page = slot_on image t p page (in_use slot.count slot.there) there j

        held : (o : Option (List ℕ)) → option_map (λ (row : ℕ × List ℕ). row.1) (row_in (row_slot key o)) ≡ o
        held None = refl
        held (Some v) = refl
