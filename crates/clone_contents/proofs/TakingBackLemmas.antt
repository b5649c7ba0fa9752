-- The last change is taken back, for the contents.
use Rattle.std.proofs.Common.{◌≡◌, ◌≢◌, ◌<◌, ◌-◌, ℕ, false, List, length, sym, ap, ◌∙◌, arith, inl, inr, Some, ne_eqb}
use Rattle.clone_contents.proofs.Common.{get_or-replicate, kind_of, Record, unused, slots, slot_in, bound_key, length-image, slots-zero, UndoEntry, header_page, UndoSlot, row_record, records_of_taking_back, slot_before, after, after_row, AreWhole, Image, page_of, all_pages, after_records, undo_slot_of, all_pages-is, contents_of, told_value, HoldsSlots, IsFormed, HasContents, MayTakeBack, taken_back, telling}
use Rattle.clone_row.specs.Slots as rows
use Rattle.clone_undo.proofs.Effects as undo
use Rattle.clone_contents.proofs.RowSlots.{slot_is}
use Rattle.clone_contents.proofs.ImagePages.{whole_slot}
use Rattle.clone_contents.proofs.FittingRecords.{FitsOn, FitAll, rows_used, stays, table_page}
use Rattle.clone_contents.proofs.ChangeRecords.{count_allowed, row_allowed}
use Rattle.clone_contents.proofs.UndoEntries.{slot_before-is, told_short}
use Rattle.clone_contents.proofs.SlotRecords.{SetsUndo, one_set}
use Rattle.clone_contents.proofs.ChangeLemmas.{undo_there, page_there, header_stands}

-- a page with a slot that is bound was used
pub bound_kind : (image : Image) (t p j key : ℕ) (page : List ℕ) → IsFormed image → t ≢ 0 → j < 50 → page_of image t p ≡ Some page → bound_key ((contents_of image).slot t p j) ≡ Some key → HoldsSlots page
bound_kind image t p j key page formed in_table low is bound =
    elim (formed.tables t p page in_table is) [
      | inl holds ↦ holds
      | inr zeros ↦ absurd (let none = sym bound ∙ ap bound_key (slot_is image t p j in_table ∙ ap (λ q. slot_in (slots q) j) (all_pages-is image t p page is ∙ zeros) ∙ ap (λ list. slot_in list j) slots-zero ∙ get_or-replicate 50 j unused unused low) in cc)
    ]

module _ (image : Image) (lsn s : ℕ) (slot : UndoSlot) (front : List UndoEntry) (e : UndoEntry) (formed : IsFormed image) (may : MayTakeBack (contents_of image) s slot front e) where
  abbrev pages : ℕ → ℕ → List ℕ
  pages = all_pages image

  abbrev count : ℕ
  count = length slot.records

  abbrev written : List Record
  written = records_of_taking_back s count e

  used : undo_slot_of image s ≡ Some slot
  used = undo_there image s slot may.small may.used

  in_table : e.table ≢ 0
  in_table = λ zero. omega (arith, zero, may.in_range.row_slot.0)

  whole : AreWhole s (pages 0)
  whole = whole_slot image s formed.whole formed.size may.small

  bytes_are : slot_before e ≡ rows.image e.key (told_value e)
  bytes_are = slot_before-is e may.in_range

  eighty : length (slot_before e) ≡ 80
  eighty = ap length bytes_are ∙ length-image e.key (told_value e) (told_short e may.in_range)

  found : (page : List ℕ) × (page_of image e.table e.page ≡ Some page)
  found = page_there image e.table e.page may.there

  used_row : HoldsSlots found.0
  used_row = bound_kind image e.table e.page e.slot e.key found.0 formed in_table may.in_range.row_slot.3 found.1 may.bound

  fits : FitAll lsn written pages
  fits =
      let row : FitsOn (row_record e (slot_before e)) pages = (row_allowed e.slot (slot_before e) may.in_range.row_slot.3 eighty, table_page image e.table e.page found.0 formed in_table found.1 used_row) in
      (row, ((count_allowed (count - 1), stays lsn (row_record e (slot_before e)) pages 0 (header_page s) row (header_stands image s slot formed may.small used)), tt))

  stay : (t m : ℕ) → (t ≡ 0 → m ≡ 0) → (t ≡ e.table → m ≡ e.page → ⊥) → after lsn written pages t m ≡ pages t m
  stay t m system = undo.taken_back_elsewhere lsn s count t m e (slot_before e) pages (λ z p. omega (arith, system z, p))

  sets : SetsUndo image lsn written s (telling slot front)
  sets = record {
    formed = formed;
    small = may.small;
    fits = fits;
    system = stay 0 0 (λ z. z) (λ z p. in_table (sym z));
    own = undo.taken_back lsn s slot front e (slot_before e) pages whole may.in_range may.few used may.last;
    others = λ n other. undo.taken_back_other lsn s count n e (slot_before e) pages other may.in_range;
  }

  pub taking_back_is : HasContents (after_records lsn image written) (taken_back s slot front e (contents_of image))
  taking_back_is = one_set image lsn written s (telling slot front) sets e (told_value e) false record {
    in_range = may.in_range;
    short = told_short e may.in_range;
    page = found.0;
    is_there = found.1;
    told = sym (ne_eqb (kind_of found.0) 0 (rows_used found.0 used_row));
    row = undo.taken_back_row lsn s count e (slot_before e) pages may.in_range ∙ ap (λ b. after_row false lsn e b (pages e.table e.page)) bytes_are;
    elsewhere = λ t m behind other. stay t m (λ z. absurd (behind z)) other;
  }
