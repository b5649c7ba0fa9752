-- What opening leaves, for the contents.
use Rattle.std.proofs.Common.{◌≡◌, ◌≢◌, ◌<◌, ◌≤◌, ◌⊎◌, ℕ, Bool, true, false, cond, List, length, replicate, refl, sym, ap, ◌∙◌, arith, inl, inr, Option, Some, None, option_map, nat_lt, nat_cmp, le-ltb}
use Rattle.clone_contents.proofs.Common.{cases_eq, cases_lt, drop-replicate, take-replicate, length-replicate, same_Some, part, field, position_at, kind_of, kind_of-initialised, zero_page, initialised, header, trailer, System, dictionary, dictionary-initialised, field-part, part-zeros, length-initialised, unused, header_page, UndoSlot, active_of, slot-free, Image, page_of, all_pages, page_count, after_records, undo_slot_of, get-put_same, get-put_other, page_of-edited_same, page_of-edited_other, page_of-made, all_pages-is, page_count-edited, contents_of, set_at, IsFormed, HasContents, opening_records, opened}
use Rattle.std.specs.FinMap as finite
use Rattle.std.specs.FinMap.{get-empty}
use Rattle.clone_contents.proofs.SameContents.{set_at-same, set_at-other, same_contents}
use Rattle.clone_contents.proofs.NextPages.{next_is, next_system, no_next}
use Rattle.clone_contents.proofs.RowSlots as rows
use Rattle.clone_contents.proofs.ZeroPages.{no_slot}
use Rattle.clone_contents.proofs.CreateLemmas.{made_zeros, absent}

active_of-zero : active_of zero_page ≡ 0
active_of-zero = field-part 40 1 1 zero_page (omega arith) ∙ ap (field 0 1) (ap (λ (xs : List ℕ). part 0 1 xs) (drop-replicate 40 4096 0) ∙ take-replicate 1 4056 0 (omega arith))

-- either way the same
same : {X : Type 0} (b : Bool) (x : X) → cond b x x ≡ x
same true x = refl
same false x = refl

module _ (lsn : ℕ) where
  abbrev none : Image
  none = finite.empty

  -- the system space before its first page is made
  abbrev space : Image
  space = finite.insert none 0 (replicate 257 zero_page)

  abbrev first : List ℕ
  first = initialised 0 0 System lsn

  abbrev new : Image
  new = after_records lsn none opening_records

  system_is : page_of new 0 0 ≡ Some first
  system_is = page_of-edited_same space 0 0 (λ page. first) zero_page (page_of-made none 0 257 0 (omega arith))

  others : (t n : ℕ) → (t ≡ 0 → n ≡ 0 → ⊥) → page_of new t n ≡ page_of space t n
  others t n apart = page_of-edited_other space 0 0 t n (λ page. first) apart

  size_is : (t : ℕ) → page_count new t ≡ set_at 0 (Some 257) (λ s. None) t
  size_is t = page_count-edited space 0 0 t (λ page. first) ∙ elim (cases_eq t 0) [
    | inl zero ↦ ap (page_count space) zero ∙ ap (option_map length) (get-put_same none 0 (replicate 257 zero_page)) ∙ ap (λ n. Some n) (length-replicate 257 zero_page) ∙ sym (set_at-same 0 t (Some 257) (λ s. None) zero)
    | inr behind ↦ ap (option_map length) (get-put_other none 0 t (replicate 257 zero_page) behind ∙ get-empty nat_cmp t) ∙ sym (set_at-other 0 t (Some 257) (λ s. None) behind)
  ]

  -- no other space is there
  nothing : (t n : ℕ) → t ≢ 0 → page_of new t n ≡ None
  nothing t n behind = absent new t n (size_is t ∙ set_at-other 0 t (Some 257) (λ s. None) behind)

  -- the other pages of the system space are zero
  zero_there : (n : ℕ) → n ≢ 0 → n < 257 → all_pages new 0 n ≡ zero_page
  zero_there n behind within = all_pages-is new 0 n zero_page (others 0 n (λ z m. behind m) ∙ page_of-made none 0 257 n within)

  page_now : all_pages new 0 0 ≡ first
  page_now = all_pages-is new 0 0 first system_is

  new_formed : IsFormed new
  new_formed = record {
    whole = λ t n page is. whole t n page is (cases_eq t 0) (cases_eq n 0);
    size = size_is 0 ∙ set_at-same 0 0 (Some 257) (λ s. None) refl;
    system = ap kind_of page_now ∙ kind_of-initialised 0 0 System lsn;
    undo = λ n behind within. inr (zero_there n behind within);
    tables = λ t n page behind is. absurd (let e = sym is ∙ nothing t n behind in cc);
  }
    where
      whole : (t n : ℕ) (page : List ℕ) → page_of new t n ≡ Some page → (t ≡ 0) ⊎ (t ≢ 0) → (n ≡ 0) ⊎ (n ≢ 0) → length page ≡ 4096
      whole t n page is (inr behind) second = absurd (let e = sym is ∙ nothing t n behind in cc)
      whole t n page is (inl zero) (inl it) = ap length (same_Some page first (sym is ∙ (λ i. page_of new (zero i) (it i)) ∙ system_is)) ∙ length-initialised 0 0 System lsn
      whole t n page is (inl zero) (inr apart) = ap length (made_zeros none 0 257 n page (ap (λ m. page_of space m n) (sym zero) ∙ sym (others t n (λ z m. apart m)) ∙ is)) ∙ length-replicate {A = ℕ} 4096 0

  next_is_none : (t p : ℕ) → (t ≡ 0) ⊎ (t ≢ 0) → (contents_of new).next t p ≡ None
  next_is_none t p (inl zero) = next_system new t p zero
  next_is_none t p (inr behind) = next_is new t p behind ∙ no_next (page_of new t p) (λ page is. absurd (let e = sym is ∙ nothing t p behind in cc))

  slot_is : (t p j : ℕ) → (t ≡ 0) ⊎ (t ≢ 0) → (contents_of new).slot t p j ≡ unused
  slot_is t p j (inl zero) = rows.slot_system new t p j zero
  slot_is t p j (inr behind) = rows.slot_is new t p j behind ∙ no_slot j (page_of new t p) (λ page is. absurd (let e = sym is ∙ nothing t p behind in cc))

  undo_is : (s : ℕ) → (s < 64) ⊎ (64 ≤ s) → (contents_of new).undo s ≡ None
  undo_is s (inl low) = ap (λ o. cond (nat_lt s 64) o None) (slot-free s (all_pages new 0) (ap active_of (zero_there (header_page s) (λ z. omega (arith, z)) (omega (arith, low))) ∙ active_of-zero)) ∙ same {X = Option UndoSlot} (nat_lt s 64) None
  undo_is s (inr high) = ap (λ b. cond b (undo_slot_of new s) None) (le-ltb s 64 high)

  position_is : (contents_of new).position ≡ 0
  position_is = ap (field position_at 8) page_now ∙ field-part 40 8 8 first (omega arith) ∙ ap (field 0 8) (part-zeros 40 8 4050 (header 0 0 System lsn) (trailer lsn) (omega arith) (omega arith))

  pub opening_is : HasContents new opened
  opening_is = (new_formed, same_contents (contents_of new) opened (ap dictionary page_now ∙ dictionary-initialised 0 0 lsn System) size_is (λ t p j. slot_is t p j (cases_eq t 0)) (λ t p. next_is_none t p (cases_eq t 0)) (λ s. undo_is s (cases_lt s 64)) position_is)
