-- A change, for the contents.
use Rattle.std.proofs.Common.{◌≡◌, ◌≢◌, ◌<◌, ◌%◌, ◌++◌, ◌==◌, ℕ, Bool, true, cond, List, [], ◌∷◌, length, sym, ap, ◌∙◌, arith, inl, inr, Option, Some, None, lt-ltb}
use Rattle.clone_contents.proofs.Common.{kind_of, Record, length-image, UndoEntry, header_page, record_page, UndoSlot, records_of_change, after, AreWhole, slot-tells, Image, page_of, all_pages, after_records, undo_slot_of, all_pages-is, contents_of, HasPage, IsFormed, IsOrUnused, HasContents, is_unused, MayChange, changed, telling}
use Rattle.clone_row.specs.Slots as rows
use Rattle.clone_undo.proofs.Effects as undo
use Rattle.clone_contents.proofs.ImagePages.{there, whole_slot}
use Rattle.clone_contents.proofs.FittingRecords.{IsOfPlace, FitAll, undo_page, table_page}
use Rattle.clone_contents.proofs.ChangeRecords.{change_fits, unused_page, used_kind}
use Rattle.clone_contents.proofs.SlotRecords.{SetsUndo, one_set}

-- an undo slot of the contents is one of the pages
pub undo_is : (image : Image) (s : ℕ) → s < 64 → (contents_of image).undo s ≡ undo_slot_of image s
undo_is image s small = ap (λ b. cond b (undo_slot_of image s) None) (lt-ltb s 64 small)

pub undo_there : (image : Image) (s : ℕ) (slot : UndoSlot) → s < 64 → (contents_of image).undo s ≡ Some slot → undo_slot_of image s ≡ Some slot
undo_there image s slot small is = sym (undo_is image s small) ∙ is

-- a page of the contents is one of the image
pub page_there : (image : Image) (table number : ℕ) → HasPage (contents_of image) table number → (page : List ℕ) × (page_of image table number ≡ Some page)
page_there image table number has = there image table number has.0 has.1 has.2

-- the header of an undo slot in use is on a page that was made
pub header_kind : (image : Image) (s : ℕ) (slot : UndoSlot) → IsFormed image → s < 64 → undo_slot_of image s ≡ Some slot → kind_of (all_pages image 0 (header_page s)) ≡ 2
header_kind image s slot formed small is =
    elim (formed.undo (header_page s) (λ z. omega (arith, z)) (omega (arith, small))) [
      | inl kind ↦ kind
      | inr zeros ↦ absurd (undo.no_header (all_pages image 0 (header_page s)) zeros (slot-tells s (all_pages image 0) slot is).active)
    ]

-- the page of an undo slot's header
pub header_stands : (image : Image) (s : ℕ) (slot : UndoSlot) → IsFormed image → s < 64 → undo_slot_of image s ≡ Some slot → IsOfPlace 0 (header_page s) (all_pages image 0 (header_page s))
header_stands image s slot formed small is = undo_page image (header_page s) formed (λ z. omega (arith, z)) (omega (arith, small)) (header_kind image s slot formed small is)

module _ (image : Image) (lsn s : ℕ) (slot : UndoSlot) (e : UndoEntry) (value : Option (List ℕ)) (formed : IsFormed image) (may : MayChange (contents_of image) s slot e value) where
  abbrev pages : ℕ → ℕ → List ℕ
  pages = all_pages image

  abbrev count : ℕ
  count = length slot.records

  abbrev bytes : List ℕ
  bytes = rows.image e.key value

  abbrev unused : Bool
  unused = is_unused image 0 (record_page s count)

  abbrev row_unused : Bool
  row_unused = is_unused image e.table e.page

  abbrev written : List Record
  written = records_of_change unused row_unused s count e bytes

  used : undo_slot_of image s ≡ Some slot
  used = undo_there image s slot may.small may.used

  whole : AreWhole s (pages 0)
  whole = whole_slot image s formed.whole formed.size may.small

  eighty : length bytes ≡ 80
  eighty = length-image e.key value may.short

  in_table : e.table ≢ 0
  in_table = λ zero. omega (arith, zero, may.in_range.row_slot.0)

  found : (page : List ℕ) × (page_of image e.table e.page ≡ Some page)
  found = page_there image e.table e.page may.there

  told : row_unused ≡ (kind_of found.0 == 0)
  told = ap (λ p. kind_of p == 0) (all_pages-is image e.table e.page found.0 found.1)

  record_kind : IsOrUnused 2 (pages 0 (record_page s count))
  record_kind = formed.undo (record_page s count) (λ z. omega (arith, z)) (omega (arith, may.room, may.small))

  -- where the page of the undo record is unused, the record is the first on a later page
  due : unused ≡ true → (0 < count) × (count % 40 ≡ 0)
  due none = undo.next_is_first s (pages 0) slot used may.known (unused_page (pages 0 (record_page s count)) (λ is z. omega (arith, is, z)) record_kind none)

  fits : FitAll lsn written pages
  fits =
      change_fits unused row_unused lsn s count e bytes pages may.in_range eighty (header_stands image s slot formed may.small used)
      (λ made. undo_page image (record_page s count) formed (λ z. omega (arith, z)) (omega (arith, may.room, may.small)) (used_kind (pages 0 (record_page s count)) record_kind made))
      (λ made. table_page image e.table e.page found.0 formed in_table found.1 (used_kind found.0 (formed.tables e.table e.page found.0 in_table found.1) (sym told ∙ made)))

  stay : (t m : ℕ) → (t ≡ 0 → m ≡ 0) → (t ≡ e.table → m ≡ e.page → ⊥) → after lsn written pages t m ≡ pages t m
  stay t m system = undo.changed_elsewhere unused row_unused lsn s count t m e bytes pages (λ z p. omega (arith, system z, p)) (λ z p. omega (arith, system z, p))

  sets : SetsUndo image lsn written s (telling slot (slot.records ++ e ∷ []))
  sets = record {
    formed = formed;
    small = may.small;
    fits = fits;
    system = stay 0 0 (λ z. z) (λ z p. in_table (sym z));
    own = undo.changed unused row_unused lsn s slot e bytes pages whole may.in_range may.room due used;
    others = λ n other. undo.changed_other unused row_unused lsn s count n e bytes pages other may.room may.in_range;
  }

  pub change_is : HasContents (after_records lsn image written) (changed s slot e value (contents_of image))
  change_is = one_set image lsn written s (telling slot (slot.records ++ e ∷ [])) sets e value row_unused record {
    in_range = may.in_range;
    short = may.short;
    page = found.0;
    is_there = found.1;
    told = told;
    row = undo.changed_row unused row_unused lsn s count e bytes pages may.in_range;
    elsewhere = λ t m behind other. stay t m (λ z. absurd (behind z)) other;
  }
