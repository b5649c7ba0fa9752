-- One slot of a page of a table was set.
use Rattle.std.proofs.Common.{◌≡◌, ◌≢◌, ◌<◌, ◌⊎◌, ℕ, cond, eqb, set, sym, ap, ◌∙◌, arith, inl, inr, eq-eqb, ne_eqb, get_or-set_same, get_or-set_other}
use Rattle.clone_contents.proofs.Common.{cases_eq, Slot, unused, slots, slot_in, length-slots, Image, all_pages, contents_of, with_slot}
use Rattle.clone_contents.proofs.SameContents.{cases_slot, slot-same, slot-other}

-- the slot of a table that is on a page
pub slot_is : (image : Image) (t p j : ℕ) → t ≢ 0 → (contents_of image).slot t p j ≡ slot_in (slots (all_pages image t p)) j
slot_is image t p j first = ap (λ b. cond b unused (slot_in (slots (all_pages image t p)) j)) (ne_eqb t 0 first)

-- the system space has none
pub slot_system : (image : Image) (t p j : ℕ) → t ≡ 0 → (contents_of image).slot t p j ≡ unused
slot_system image t p j zero = ap (λ b. cond b unused (slot_in (slots (all_pages image t p)) j)) (eq-eqb t 0 zero)

-- a slot stays where the slots of its page do
pub slot_at : (image new : Image) (t p j : ℕ) → (t ≢ 0 → slots (all_pages new t p) ≡ slots (all_pages image t p)) → (contents_of new).slot t p j ≡ (contents_of image).slot t p j
slot_at image new t p j same =
    elim (cases_eq t 0) [
      | inl zero ↦ slot_system new t p j zero ∙ sym (slot_system image t p j zero)
      | inr in_table ↦ ap (λ list. cond (eqb t 0) unused (slot_in list j)) (same in_table)
    ]

-- the slots stay where the pages of tables do
pub slots_same : (image new : Image) → ((t p : ℕ) → t ≢ 0 → all_pages new t p ≡ all_pages image t p) → (t p j : ℕ) → (contents_of new).slot t p j ≡ (contents_of image).slot t p j
slots_same image new same t p j = slot_at image new t p j (λ in_table. ap slots (same t p in_table))

module _ (image new : Image) (t p j : ℕ) (x : Slot) (in_table : t ≢ 0) (low : j < 50) (now : slots (all_pages new t p) ≡ set (slots (all_pages image t p)) j x) (others : (u n : ℕ) → u ≢ 0 → (u ≡ t → n ≡ p → ⊥) → all_pages new u n ≡ all_pages image u n) where
  abbrev on : Image → ℕ → ℕ → ℕ → Slot
  on i u n k = slot_in (slots (all_pages i u n)) k

  own : on new t p j ≡ x
  own = ap (λ list. slot_in list j) now ∙ get_or-set_same (slots (all_pages image t p)) j x unused (omega (arith, low, length-slots (all_pages image t p)))

  other : (u n i : ℕ) → u ≢ 0 → (u ≡ t → n ≡ p → i ≡ j → ⊥) → on new u n i ≡ on image u n i
  other u n i behind apart = at (cases_eq u t) (cases_eq n p)
    where
      at : (u ≡ t) ⊎ (u ≢ t) → (n ≡ p) ⊎ (n ≢ p) → on new u n i ≡ on image u n i
      at (inr a) second = ap (λ page. slot_in (slots page) i) (others u n behind (λ e f. a e))
      at (inl a) (inr b) = ap (λ page. slot_in (slots page) i) (others u n behind (λ e f. b f))
      at (inl a) (inl b) =
          (λ k. on new (a k) (b k) i) ∙ ap (λ list. slot_in list i) now ∙ get_or-set_other (slots (all_pages image t p)) j i x unused (apart a b) ∙ (λ k. on image (sym a k) (sym b k) i)

  pub slot_set : (u n i : ℕ) → (contents_of new).slot u n i ≡ (with_slot t p j x (contents_of image)).slot u n i
  slot_set u n i =
      elim (cases_slot u n i t p j) [
        | inl same ↦ slot_is new u n i (λ z. in_table (sym same.0 ∙ z)) ∙ (λ k. on new (same.0 k) (same.1 k) (same.2 k)) ∙ own ∙ sym (slot-same t p j u n i x (contents_of image) same.0 same.1 same.2)
        | inr apart ↦ still apart (cases_eq u 0) ∙ sym (slot-other t p j u n i x (contents_of image) apart)
      ]
    where
      still : (u ≡ t → n ≡ p → i ≡ j → ⊥) → (u ≡ 0) ⊎ (u ≢ 0) → (contents_of new).slot u n i ≡ (contents_of image).slot u n i
      still apart (inl zero) = slot_system new u n i zero ∙ sym (slot_system image u n i zero)
      still apart (inr behind) = ap (λ s. cond (eqb u 0) unused s) (other u n i behind apart)
