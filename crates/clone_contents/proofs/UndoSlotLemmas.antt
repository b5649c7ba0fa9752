-- A transaction begins, or ends, for the contents.
use Rattle.std.proofs.Common.{◌≡◌, ◌<◌, ◌^◌, ℕ, Bool, true, false, List, [], refl, arith, inr, Option, Some, None}
use Rattle.clone_contents.proofs.Common.{IsAllowed, Undo, Init, header_page, UndoSlot, records_of_begin, records_of_end, Image, all_pages, after_records, contents_of, IsFormed, HasContents, is_unused, begun, ended}
use Rattle.clone_undo.proofs.Effects as undo
use Rattle.clone_contents.proofs.ImagePages.{whole_slot}
use Rattle.clone_contents.proofs.FittingRecords.{FitsOn, FitAll, made_stands, undo_page}
use Rattle.clone_contents.proofs.ChangeRecords.{used_kind}
use Rattle.clone_contents.proofs.ChangeLemmas.{undo_there, header_stands}
use Rattle.clone_contents.proofs.SlotRecords.{SetsUndo, undo_set}

-- A transaction begins.

header_allowed : IsAllowed 40 16
header_allowed = (omega arith, inr (omega arith, omega arith))

module _ (image : Image) (lsn s writer index : ℕ) (formed : IsFormed image) (small : s < 64) (writer_fits : writer < 2 ^ 32) (index_fits : index < 2 ^ 64) where
  abbrev none : Bool
  none = is_unused image 0 (header_page s)

  abbrev pages : ℕ → ℕ → List ℕ
  pages = all_pages image

  fits : (b : Bool) → none ≡ b → FitAll lsn (records_of_begin b s writer index) pages
  fits true is =
      let made : FitsOn (Init 0 (header_page s) Undo) pages = (λ zero first. omega (arith, first), λ zero behind. refl, λ behind. absurd (behind refl)) in
      (made, ((header_allowed, made_stands lsn 0 (header_page s) Undo pages made), tt))
  fits false is = ((header_allowed, undo_page image (header_page s) formed (λ z. omega (arith, z)) (omega (arith, small)) (used_kind (pages 0 (header_page s)) (formed.undo (header_page s) (λ z. omega (arith, z)) (omega (arith, small))) is)), tt)

  abbrev begun_slot : Option UndoSlot
  begun_slot = Some (record { writer = writer; index = index; records = [] })

  sets : SetsUndo image lsn (records_of_begin none s writer index) s begun_slot
  sets = record {
    formed = formed;
    small = small;
    fits = fits none refl;
    system = undo.begun_elsewhere none lsn s writer index 0 0 pages (λ z h. omega (arith, h));
    own = undo.begun none lsn s writer index pages (whole_slot image s formed.whole formed.size small) writer_fits index_fits;
    others = λ n other. undo.begun_other none lsn s writer index n pages other;
  }

  pub begin_is : HasContents (after_records lsn image (records_of_begin none s writer index)) (begun s writer index (contents_of image))
  begin_is = undo_set image lsn (records_of_begin none s writer index) s begun_slot sets (λ t m behind. undo.begun_elsewhere none lsn s writer index t m pages (λ z h. behind z))

-- A transaction ends.

module _ (image : Image) (lsn s : ℕ) (slot : UndoSlot) (formed : IsFormed image) (small : s < 64) (used : (contents_of image).undo s ≡ Some slot) where
  end_sets : SetsUndo image lsn (records_of_end s) s None
  end_sets = record {
    formed = formed;
    small = small;
    fits = ((header_allowed, header_stands image s slot formed small (undo_there image s slot small used)), tt);
    system = undo.ended_elsewhere lsn s 0 0 (all_pages image) (λ z h. omega (arith, h));
    own = undo.ended lsn s (all_pages image) (whole_slot image s formed.whole formed.size small);
    others = λ n other. undo.ended_other lsn s n (all_pages image) other;
  }

  pub end_is : HasContents (after_records lsn image (records_of_end s)) (ended s (contents_of image))
  end_is = undo_set image lsn (records_of_end s) s None end_sets (λ t m behind. undo.ended_elsewhere lsn s t m (all_pages image) (λ z h. behind z))
