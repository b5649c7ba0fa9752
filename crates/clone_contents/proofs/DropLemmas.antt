-- A table is dropped, for the contents: its space is gone, and its entry of the dictionary is free.
use Rattle.std.proofs.Common.{◌≡◌, ◌≢◌, ◌⊎◌, ℕ, cond, eqb, List, [], length, set, sym, ap, subst, ◌∙◌, arith, inl, inr, Option, Some, None, option_map, option_and_then, slice_get, unwrap_or, nat_lt}
use Rattle.std.specs.FinMap as finite
use Rattle.std.specs.Cmp.{nat_cmp_total}
use Rattle.std.proofs.lemmas.Map.Lookups.{exact_unsigned}
use Rattle.clone_base.proofs.MapEntries.{get-removed_same, get-removed_other}
use Rattle.clone_contents.proofs.Common.{cases_eq, field, position_at, kind_of, dictionary, free, records_of_drop, behind, unused, slots, slot_in, Slot, Image, page_of, all_pages, page_count, after_records, Contents, contents_of, set_at, IsFormed, IsOrUnused, HasContents}
use Rattle.clone_undo.proofs.Effects as undo
use Rattle.clone_contents.specs.Spaces.{MayDrop, dropped}
use Rattle.clone_contents.proofs.SameContents.{set_at-same, set_at-other, same_contents}
use Rattle.clone_contents.proofs.SystemLemmas.{entry_within}
use Rattle.clone_contents.proofs.NextPages.{next_is, next_at, no_next}
use Rattle.clone_contents.proofs.RowSlots.{slot_is}
use Rattle.clone_contents.proofs.ZeroPages.{no_slot, none_is}
use Rattle.clone_contents.proofs.CreateLemmas.{table_named}

module _ (image : Image) (table : ℕ) (formed : IsFormed image) (in_table : table ≢ 0) where
  abbrev less : Image
  less = finite.remove image table

  -- no page of the space is there
  gone : (t n : ℕ) → t ≡ table → page_of less t n ≡ None
  gone t n same = ap (λ k. page_of less k n) same ∙ ap (λ (o : Option (List (List ℕ))). option_and_then (λ pages. slice_get pages n) o) (get-removed_same nat_cmp_total exact_unsigned image table)

  others : (t n : ℕ) → t ≢ table → page_of less t n ≡ page_of image t n
  others t n other = ap (λ (o : Option (List (List ℕ))). option_and_then (λ pages. slice_get pages n) o) (get-removed_other nat_cmp_total exact_unsigned image table t other)

  all_others : (t n : ℕ) → t ≢ table → all_pages less t n ≡ all_pages image t n
  all_others t n other = ap (λ (o : Option (List ℕ)). unwrap_or o []) (others t n other)

  system_other : 0 ≢ table
  system_other zero = in_table (sym zero)

  -- a page that is there was there
  was_there : (t n : ℕ) (page : List ℕ) → page_of less t n ≡ Some page → page_of image t n ≡ Some page
  was_there t n page is = elim (cases_eq t table) [ inl same ↦ absurd (none_is (gone t n same) is) | inr other ↦ sym (others t n other) ∙ is ]

  sizes : (t : ℕ) → (t ≡ table) ⊎ (t ≢ table) → page_count less t ≡ set_at table None (contents_of image).size t
  sizes t (inl same) = ap (page_count less) same ∙ ap (option_map length) (get-removed_same nat_cmp_total exact_unsigned image table) ∙ sym (set_at-same table t None (contents_of image).size same)
  sizes t (inr other) = ap (option_map length) (get-removed_other nat_cmp_total exact_unsigned image table t other) ∙ sym (set_at-other table t None (contents_of image).size other)

  abbrev no_slots : ℕ → ℕ → Slot
  no_slots page j = unused

  slots_now : (t p j : ℕ) → (t ≡ table) ⊎ (t ≢ table) → (contents_of less).slot t p j ≡ set_at table no_slots (contents_of image).slot t p j
  slots_now t p j (inl same) =
      slot_is less t p j (λ zero. in_table (sym same ∙ zero)) ∙ no_slot j (page_of less t p) (λ page is. absurd (none_is (gone t p same) is))
      ∙ sym (ap (λ (f : ℕ → ℕ → Slot). f p j) (set_at-same table t no_slots (contents_of image).slot same))
  slots_now t p j (inr other) = ap (λ page. cond (eqb t 0) unused (slot_in (slots page) j)) (all_others t p other) ∙ sym (ap (λ (f : ℕ → ℕ → Slot). f p j) (set_at-other table t no_slots (contents_of image).slot other))

  abbrev no_nexts : ℕ → Option ℕ
  no_nexts page = None

  nexts_now : (t p : ℕ) → (t ≡ table) ⊎ (t ≢ table) → (contents_of less).next t p ≡ set_at table no_nexts (contents_of image).next t p
  nexts_now t p (inl same) =
      next_is less t p (λ zero. in_table (sym same ∙ zero)) ∙ no_next (page_of less t p) (λ page is. absurd (none_is (gone t p same) is))
      ∙ sym (ap (λ (f : ℕ → Option ℕ). f p) (set_at-same table t no_nexts (contents_of image).next same))
  nexts_now t p (inr other) = next_at image less t p (λ first. ap behind (all_others t p other)) ∙ sym (ap (λ (f : ℕ → Option ℕ). f p) (set_at-other table t no_nexts (contents_of image).next other))

  less_formed : IsFormed less
  less_formed = record {
    whole = λ t n page is. formed.whole t n page (was_there t n page is);
    size = sizes 0 (inr system_other) ∙ set_at-other table 0 None (contents_of image).size system_other ∙ formed.size;
    system = ap kind_of (all_others 0 0 system_other) ∙ formed.system;
    undo = λ n first within. subst (IsOrUnused 2) (sym (all_others 0 n system_other)) (formed.undo n first within);
    tables = λ t n page first is. formed.tables t n page first (was_there t n page is);
  }

  abbrev without : Contents → Contents
  without c = record c { size = set_at table None c.size; slot = set_at table no_slots c.slot; next = set_at table no_nexts c.next }

  space_gone : HasContents less (without (contents_of image))
  space_gone = (
    less_formed,
    same_contents (contents_of less) (without (contents_of image)) (ap dictionary (all_others 0 0 system_other)) (λ t. sizes t (cases_eq t table)) (λ t p j. slots_now t p j (cases_eq t table)) (λ t p. nexts_now t p (cases_eq t table))
        (λ s. ap (λ o. cond (nat_lt s 64) o None) (undo.own s (all_pages less 0) (all_pages image 0) (λ m from to. all_others 0 m system_other)))
        (ap (field position_at 8) (all_others 0 0 system_other)),
  )

-- both together
pub dropped_is : (image : Image) (lsn entry_number table : ℕ) → IsFormed image → MayDrop (contents_of image) entry_number table → HasContents (after_records lsn image (records_of_drop entry_number table)) (dropped entry_number table (contents_of image))
dropped_is image lsn entry_number table formed may =
    let room = entry_within image entry_number table may.named may.used in
    let space = space_gone image table formed may.used in
    let named = table_named (finite.remove image table) lsn entry_number free space.0 room (omega arith, omega arith, omega arith) in
    (named.0, named.1 ∙ ap (λ (c : Contents). record c { dictionary = set c.dictionary entry_number free }) space.1)
