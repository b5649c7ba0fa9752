-- What the records of a change leave of the pages that they name.
use Rattle.std.proofs.Common.{◌≡◌, ◌≢◌, ◌<◌, ◌≤◌, ◌+◌, ◌*◌, ◌^◌, ◌==◌, ◌++◌, ◌⊎◌, ℕ, Bool, true, false, List, [], ◌∷◌, length, refl, sym, ap, ◌∙◌, arith, inl, inr, Option, set, IfSome, eqb-true, eq-eqb}
use Rattle.clone_contents.proofs.Common.{big_bytes, length-bytes_high_first, zero_page, kind_of, IsAllowed, Undo, Bucket, length-initialised, effect, Record, Init, slots, row_slot, image, slots-WritesSlot, slots-initialised, slots-zero, UndoEntry, IsEntry, entry_bytes, header_page, record_page, record_offset, made_first, count_record, entry_record, row_record, records_of_change, pages_after_record, after_row, behind, behind-same, behind-made, header-WritesSlot, IsRowsOrUnused}
use Rattle.clone_mtr.specs.Patches.{Patched}
use Rattle.clone_row.specs.Writes.{WritesSlot}
use Rattle.clone_undo.proofs.Entries.{length-entry_bytes}
use Rattle.clone_contents.proofs.FittingRecords.{IsOfPlace, FitsOn, FitAll, rows_used, stays, made_stands}
use Rattle.clone_contents.proofs.NextPages.{behind-zero}

pub kind_of-zero : kind_of zero_page ≡ 0
kind_of-zero = refl

-- a page that is of a kind, or an unused one, is unused exactly where its kind is 0
pub used_kind : {K : Type 0} (page : List ℕ) → K ⊎ (page ≡ zero_page) → (kind_of page == 0) ≡ false → K
used_kind page (inl is) used = is
used_kind page (inr zeros) used = absurd (let e = sym used ∙ eq-eqb (kind_of page) 0 (ap kind_of zeros ∙ kind_of-zero) in cc)

pub unused_page : {K : Type 0} (page : List ℕ) → (K → kind_of page ≢ 0) → K ⊎ (page ≡ zero_page) → (kind_of page == 0) ≡ true → page ≡ zero_page
unused_page page other (inl is) none = absurd (other is (eqb-true (kind_of page) 0 none))
unused_page page other (inr zeros) none = zeros

-- The pages of the system space.

entry_allowed : (n : ℕ) (e : UndoEntry) → IsEntry e → IsAllowed (record_offset n) (length (entry_bytes e))
entry_allowed n e is = let long = length-entry_bytes e is in (omega (arith, long), inr (omega arith, omega (arith, long)))

pub count_allowed : (m : ℕ) → IsAllowed 42 (length (big_bytes 2 m))
count_allowed m = let two = length-bytes_high_first 2 m in (omega (arith, two), inr (omega arith, omega (arith, two)))

pub row_allowed : (j : ℕ) (bytes : List ℕ) → j < 50 → length bytes ≡ 80 → IsAllowed (48 + 80 * j) (length bytes)
row_allowed j bytes within eighty = (omega (arith, eighty), inr (omega arith, omega (arith, eighty, within)))

-- THE RECORDS OF A CHANGE FIT

row_fits : (row_unused : Bool) (lsn : ℕ) (e : UndoEntry) (bytes : List ℕ) (pages : ℕ → ℕ → List ℕ) → IsEntry e → length bytes ≡ 80 → (row_unused ≡ false → IsOfPlace e.table e.page (pages e.table e.page)) → FitAll lsn (made_first row_unused e.table e.page Bucket ++ row_record e bytes ∷ []) pages
row_fits true lsn e bytes pages is eighty row =
    let in_table : e.table ≢ 0 = λ zero. omega (arith, zero, is.row_slot.0) in
    let made : FitsOn (Init e.table e.page Bucket) pages = (λ zero. absurd (in_table zero), λ zero. absurd (in_table zero), λ other. inl refl) in
    (made, ((row_allowed e.slot bytes is.row_slot.3 eighty, made_stands lsn e.table e.page Bucket pages made), tt))
row_fits false lsn e bytes pages is eighty row = ((row_allowed e.slot bytes is.row_slot.3 eighty, row refl), tt)

written_fits : (row_unused : Bool) (lsn s n : ℕ) (e : UndoEntry) (bytes : List ℕ) (pages : ℕ → ℕ → List ℕ) → IsEntry e → length bytes ≡ 80 → IsOfPlace 0 (header_page s) (pages 0 (header_page s)) → IsOfPlace 0 (record_page s n) (pages 0 (record_page s n))
    → (row_unused ≡ false → IsOfPlace e.table e.page (pages e.table e.page)) → FitAll lsn (entry_record s n e ∷ count_record s (n + 1) ∷ (made_first row_unused e.table e.page Bucket ++ row_record e bytes ∷ [])) pages
written_fits row_unused lsn s n e bytes pages is eighty header place row =
    let told : FitsOn (entry_record s n e) pages = (entry_allowed n e is, place) in
    let told_pages = pages_after_record lsn (entry_record s n e) pages in
    let count : FitsOn (count_record s (n + 1)) told_pages = (count_allowed (n + 1), stays lsn (entry_record s n e) pages 0 (header_page s) told header) in (
      told,
      (
        count,
        row_fits row_unused lsn e bytes (pages_after_record lsn (count_record s (n + 1)) told_pages) is eighty (λ used. stays lsn (count_record s (n + 1)) told_pages e.table e.page count (stays lsn (entry_record s n e) pages e.table e.page told (row used))),
      ),
    )

pub change_fits : (unused row_unused : Bool) (lsn s n : ℕ) (e : UndoEntry) (bytes : List ℕ) (pages : ℕ → ℕ → List ℕ) → IsEntry e → length bytes ≡ 80 → IsOfPlace 0 (header_page s) (pages 0 (header_page s))
    → (unused ≡ false → IsOfPlace 0 (record_page s n) (pages 0 (record_page s n))) → (row_unused ≡ false → IsOfPlace e.table e.page (pages e.table e.page)) → FitAll lsn (records_of_change unused row_unused s n e bytes) pages
change_fits true row_unused lsn s n e bytes pages is eighty header place row =
    let made : FitsOn (Init 0 (record_page s n) Undo) pages = (λ zero first. omega (arith, first), λ zero behind. refl, λ behind. absurd (behind refl)) in
    let init : Record = Init 0 (record_page s n) Undo in (
      made,
      written_fits row_unused lsn s n e bytes (pages_after_record lsn init pages) is eighty (stays lsn init pages 0 (header_page s) made header) (made_stands lsn 0 (record_page s n) Undo pages made) (λ used. stays lsn init pages e.table e.page made (row used)),
    )
change_fits false row_unused lsn s n e bytes pages is eighty header place row = written_fits row_unused lsn s n e bytes pages is eighty header (place refl) row

-- The page of the row.

module _ (lsn key : ℕ) (value : Option (List ℕ)) (e : UndoEntry) (page : List ℕ) (within : e.slot < 50) (small : key < 2 ^ 64) (short : IfSome value (λ v. length v ≤ 64)) (long : length page ≡ 4096) (is : IsRowsOrUnused page) where
  abbrev patch : Patched
  patch = record { offset = 48 + 80 * e.slot; bytes = image key value }

  -- the page after it was made
  abbrev made : List ℕ
  made = effect lsn (Init e.table e.page Bucket) page

  writes : WritesSlot e.slot key value patch
  writes = record { within = within; offset = refl; bytes = refl; key_fits = small; short = short }

  long_made : length made ≡ 4096
  long_made = length-initialised e.table e.page Bucket lsn

  zeros : true ≡ (kind_of page == 0) → page ≡ zero_page
  zeros none = unused_page page (rows_used page) is (sym none)

  -- the row slot is set
  pub row_set : (unused : Bool) → unused ≡ (kind_of page == 0) → slots (after_row unused lsn e (image key value) page) ≡ set (slots page) e.slot (row_slot key value)
  row_set true none =
      let same : slots made ≡ slots page = slots-initialised e.table e.page lsn Bucket ∙ sym slots-zero ∙ ap slots (sym (zeros none)) in
      slots-WritesSlot lsn e.slot key value patch made writes long_made ∙ ap (λ list. set list e.slot (row_slot key value)) same
  row_set false used = slots-WritesSlot lsn e.slot key value patch page writes long

  kept : (bytes : List ℕ) → length bytes ≡ 4096 → behind (effect lsn (row_record e (image key value)) bytes) ≡ behind bytes
  kept bytes whole = behind-same bytes (effect lsn (row_record e (image key value)) bytes) (header-WritesSlot lsn e.slot key value patch bytes writes whole)

  -- the page behind it stays
  pub row_next : (unused : Bool) → unused ≡ (kind_of page == 0) → behind (after_row unused lsn e (image key value) page) ≡ behind page
  row_next true none = kept made long_made ∙ behind-made e.table e.page lsn Bucket ∙ sym behind-zero ∙ ap behind (sym (zeros none))
  row_next false used = kept page long
