-- What recovery's edits of pages do to contents.
use Rattle.std.proofs.Common.{◌≡◌, ◌≢◌, ◌<◌, ◌≤◌, ◌+◌, ◌⊎◌, ℕ, cond, ltb, List, [], length, replicate, set, refl, sym, ap, subst, ◌∙◌, arith, inl, inr, Option, Some, None, unwrap_or}
use Rattle.clone_contents.proofs.Common.{cases_eq, put_at, field, dictionary, position_at, kind_of, slot_at, length-put_at, kind_of-put_body, slot-put_same, slot-put_other, field-put_front, behind, Slot, slots, slot_of, row_slot, slots-set, length-image, slot_of-image, UndoEntry, header_page, header_offset, UndoSlot, is_in_use, entries, writer_of, index_of, count_of, slot_before, not_in_use, Image, page_of, all_pages, with_edit, edited, undo_slot_of, page_of-edited_same, page_of-edited_other, all_pages-is, page_count-edited, contents_of, told_value, undone, with_undo, HoldsSlots, IsFormed, IsOrUnused, MayUndo}
use Rattle.clone_row.specs.Slots as rows
use Rattle.clone_undo.proofs.Effects as undo
use Rattle.clone_image.specs.Recovered as recovered
use Rattle.clone_contents.proofs.SameContents.{same_contents}
use Rattle.clone_contents.proofs.ImagePages.{there}
use Rattle.clone_contents.proofs.UndoEntries.{slot_before-is, told_short}
use Rattle.clone_contents.proofs.RowSlots.{slots_same, slot_set}
use Rattle.clone_contents.proofs.NextPages.{behind-body, next_kept}
use Rattle.clone_contents.proofs.FittingRecords.{rows_kind}
use Rattle.clone_contents.proofs.SlotRecords.{undo_set_at}
use Rattle.clone_contents.proofs.ChangeLemmas.{undo_there, page_there, header_kind}
use Rattle.clone_contents.proofs.TakingBackLemmas.{bound_kind}

-- Bytes behind the header of a page that was used are put on it. It isn't the first page of the system space.
pub record PutsOn (image : Image) (space number at : ℕ) (piece : List ℕ) : Type 0 where
  pub formed : IsFormed image
  pub apart : space ≡ 0 → number ≡ 0 → ⊥
  pub page : List ℕ
  pub is_there : page_of image space number ≡ Some page
  pub low : 38 ≤ at
  pub high : at + length piece ≤ 4096
  pub system : space ≡ 0 → kind_of page ≡ 2
  pub table : space ≢ 0 → HoldsSlots page

module _ (image : Image) (space number at : ℕ) (piece : List ℕ) (g : PutsOn image space number at piece) where
  abbrev pub put : Image
  put = with_edit image space (edited number (put_at at piece))

  long : length g.page ≡ 4096
  long = g.formed.whole space number g.page g.is_there

  pub now : page_of put space number ≡ Some (put_at at piece g.page)
  now = page_of-edited_same image space number (put_at at piece) g.page g.is_there

  pub others : (t n : ℕ) → (t ≡ space → n ≡ number → ⊥) → page_of put t n ≡ page_of image t n
  others t n apart = page_of-edited_other image space number t n (put_at at piece) apart

  pub all_others : (t n : ℕ) → (t ≡ space → n ≡ number → ⊥) → all_pages put t n ≡ all_pages image t n
  all_others t n apart = ap (λ (o : Option (List ℕ)). unwrap_or o []) (others t n apart)

  kind : kind_of (put_at at piece g.page) ≡ kind_of g.page
  kind = kind_of-put_body at piece g.page g.low (omega (arith, long, g.high))

  -- a page is the one that is written, or another as before
  either : (t n : ℕ) → ((t ≡ space) × (all_pages put t n ≡ put_at at piece g.page)) ⊎ (page_of put t n ≡ page_of image t n)
  either t n = by (cases_eq t space) (cases_eq n number)
    where
      by : (t ≡ space) ⊎ (t ≢ space) → (n ≡ number) ⊎ (n ≢ number) → ((t ≡ space) × (all_pages put t n ≡ put_at at piece g.page)) ⊎ (page_of put t n ≡ page_of image t n)
      by (inl a) (inl b) = inl (a, (λ i. all_pages put (a i) (b i)) ∙ all_pages-is put space number (put_at at piece g.page) now)
      by (inl a) (inr b) = inr (others t n (λ x y. b y))
      by (inr a) second = inr (others t n (λ x y. a x))

  system_page : all_pages put 0 0 ≡ all_pages image 0 0
  system_page = all_others 0 0 (λ x y. g.apart (sym x) (sym y))

  pub put_formed : IsFormed put
  put_formed = record {
    whole = λ t n page is. elim (either t n) [
      | inl own ↦ ap length (sym (all_pages-is put t n page is) ∙ own.1) ∙ length-put_at at piece g.page (omega (arith, long, g.high)) ∙ long
      | inr same ↦ g.formed.whole t n page (sym same ∙ is)
    ];
    size = page_count-edited image space number 0 (put_at at piece) ∙ g.formed.size;
    system = ap kind_of system_page ∙ g.formed.system;
    undo = λ n behind within. elim (either 0 n) [
      | inl own ↦ inl (ap kind_of own.1 ∙ kind ∙ g.system (sym own.0))
      | inr same ↦ subst (IsOrUnused 2) (sym (ap (λ (o : Option (List ℕ)). unwrap_or o []) same)) (g.formed.undo n behind within)
    ];
    tables = λ t n page behind is. elim (either t n) [
      | inl own ↦ inl (rows_kind (kind_of g.page) page (ap kind_of (sym (all_pages-is put t n page is) ∙ own.1) ∙ kind) (g.table (λ z. behind (own.0 ∙ z))))
      | inr same ↦ g.formed.tables t n page behind (sym same ∙ is)
    ];
  }

  -- the header stays, and so does the page behind it
  next_stays : behind (all_pages put space number) ≡ behind (all_pages image space number)
  next_stays =
      ap behind (all_pages-is put space number (put_at at piece g.page) now)
      ∙ behind-body at piece g.page g.low (omega (arith, long, g.high))
      ∙ ap behind (sym (all_pages-is image space number g.page g.is_there))

  -- the slots and the undo slots are these, and all else stays
  pub put_contents : (slot : ℕ → ℕ → ℕ → Slot) (undo : ℕ → Option UndoSlot) → ((t p j : ℕ) → (contents_of put).slot t p j ≡ slot t p j) → ((s : ℕ) → (contents_of put).undo s ≡ undo s) → contents_of put ≡ record (contents_of image) { slot = slot; undo = undo }
  put_contents slot undo slots_are undo_is =
      same_contents (contents_of put) (record (contents_of image) { slot = slot; undo = undo }) (ap dictionary system_page) (λ s. page_count-edited image space number s (put_at at piece)) slots_are
      (next_kept image put space number next_stays (λ t n first apart. all_others t n apart)) undo_is (ap (field position_at 8) system_page)

-- A change is taken back.

module _ (image : Image) (e : UndoEntry) (formed : IsFormed image) (may : MayUndo (contents_of image) e) where
  in_table : e.table ≢ 0
  in_table = λ zero. omega (arith, zero, may.in_range.row_slot.0)

  found : (page : List ℕ) × (page_of image e.table e.page ≡ Some page)
  found = page_there image e.table e.page may.there

  bytes_are : slot_before e ≡ rows.image e.key (told_value e)
  bytes_are = slot_before-is e may.in_range

  eighty : length (slot_before e) ≡ 80
  eighty = ap length bytes_are ∙ length-image e.key (told_value e) (told_short e may.in_range)

  puts : PutsOn image e.table e.page (slot_at e.slot) (slot_before e)
  puts = record {
    formed = formed;
    apart = λ z n. in_table z;
    page = found.0;
    is_there = found.1;
    low = omega arith;
    high = omega (arith, eighty, may.in_range.row_slot.3);
    system = λ z. absurd (in_table z);
    table = λ behind. bound_kind image e.table e.page e.slot e.key found.0 formed in_table may.in_range.row_slot.3 found.1 may.bound;
  }

  abbrev new : Image
  new = recovered.undone image e

  fits : slot_at e.slot ≤ length puts.page
  fits = omega (arith, formed.whole e.table e.page puts.page puts.is_there, may.in_range.row_slot.3)

  slots_now : slots (all_pages new e.table e.page) ≡ set (slots (all_pages image e.table e.page)) e.slot (row_slot e.key (told_value e))
  slots_now =
      ap slots (all_pages-is new e.table e.page (put_at (slot_at e.slot) (slot_before e) puts.page) (now image e.table e.page (slot_at e.slot) (slot_before e) puts))
      ∙ slots-set e.slot (row_slot e.key (told_value e)) puts.page (put_at (slot_at e.slot) (slot_before e) puts.page) may.in_range.row_slot.3
      (ap slot_of (slot-put_same e.slot (slot_before e) puts.page eighty fits ∙ bytes_are) ∙ slot_of-image e.key (told_value e) may.in_range.key (told_short e may.in_range))
      (λ k low other. slot-put_other k e.slot (slot_before e) puts.page other eighty fits)
      ∙ ap (λ p. set (slots p) e.slot (row_slot e.key (told_value e))) (sym (all_pages-is image e.table e.page puts.page puts.is_there))

  pub undone_is : IsFormed new × (contents_of new ≡ undone e (contents_of image))
  undone_is = (
    put_formed image e.table e.page (slot_at e.slot) (slot_before e) puts,
    put_contents image e.table e.page (slot_at e.slot) (slot_before e) puts (undone e (contents_of image)).slot (contents_of image).undo
        (slot_set image new e.table e.page e.slot (row_slot e.key (told_value e)) in_table may.in_range.row_slot.3 slots_now (λ t n behind other. all_others image e.table e.page (slot_at e.slot) (slot_before e) puts t n other))
        (λ s. ap (λ o. cond (ltb s 64) o None) (undo.own s (all_pages new 0) (all_pages image 0) (λ m low high. all_others image e.table e.page (slot_at e.slot) (slot_before e) puts 0 m (λ z n. in_table (sym z))))),
  )

-- An undo slot is freed.

module _ (image : Image) (s : ℕ) (slot : UndoSlot) (formed : IsFormed image) (small : s < 64) (used : (contents_of image).undo s ≡ Some slot) where
  abbrev zeros : List ℕ
  zeros = replicate 16 0

  header : (page : List ℕ) × (page_of image 0 (header_page s) ≡ Some page)
  header = there image 0 (header_page s) 257 formed.size (omega (arith, small))

  freeing : PutsOn image 0 (header_page s) header_offset zeros
  freeing = record {
    formed = formed;
    apart = λ z n. omega (arith, n);
    page = header.0;
    is_there = header.1;
    low = omega arith;
    high = omega arith;
    system = λ z. ap kind_of (sym (all_pages-is image 0 (header_page s) header.0 header.1)) ∙ header_kind image s slot formed small (undo_there image s slot small used);
    table = λ behind. absurd (behind refl);
  }

  abbrev freed_image : Image
  freed_image = recovered.freed image s

  -- the undo slot isn't in use
  free : undo_slot_of freed_image s ≡ None
  free =
      let header_now = all_pages-is freed_image 0 (header_page s) (put_at header_offset zeros freeing.page) (now image 0 (header_page s) header_offset zeros freeing) in
      let long = formed.whole 0 (header_page s) freeing.page freeing.is_there in
      let active : field 40 1 (put_at header_offset zeros freeing.page) ≡ 0 = field-put_front 40 1 0 (replicate 15 0) freeing.page (omega (arith, long)) (omega arith) in
      ap (λ page. if_used page) header_now ∙ ap (λ b. cond b (Some (told_by (put_at header_offset zeros freeing.page))) None) (not_in_use (put_at header_offset zeros freeing.page) active)
    where
      told_by : List ℕ → UndoSlot
      told_by page = record { writer = writer_of page; index = index_of page; records = entries s (all_pages freed_image 0) (count_of page) }

      if_used : List ℕ → Option UndoSlot
      if_used page = cond (is_in_use page) (Some (told_by page)) None

  pub freed_is : IsFormed freed_image × (contents_of freed_image ≡ with_undo s None (contents_of image))
  freed_is = (
    put_formed image 0 (header_page s) header_offset zeros freeing,
    put_contents image 0 (header_page s) header_offset zeros freeing (contents_of image).slot (with_undo s None (contents_of image)).undo
        (slots_same image freed_image (λ t p behind. all_others image 0 (header_page s) header_offset zeros freeing t p (λ z n. behind z)))
        (undo_set_at image freed_image s None small free (λ n other low. undo.own n (all_pages freed_image 0) (all_pages image 0) (λ m above below. all_others image 0 (header_page s) header_offset zeros freeing 0 m (λ z h. other (omega (arith, above, below, h)))))),
  )
