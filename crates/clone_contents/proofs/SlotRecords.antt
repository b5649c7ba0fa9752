-- Mini-transactions that change one undo slot, and at most one row slot.
use Rattle.std.proofs.Common.{◌≡◌, ◌≢◌, ◌<◌, ◌≤◌, ◌⊎◌, ◌==◌, ℕ, Bool, cond, ltb, List, [], length, set, sym, ap, ◌∙◌, arith, inl, inr, Option, Some, None, IfSome, unwrap_or, lt-ltb, le-ltb}
use Rattle.clone_contents.proofs.Common.{AllByRecursion, cases_eq, cases_lt, field, dictionary, position_at, kind_of, Record, Slot, slots, row_slot, behind, UndoEntry, IsEntry, UndoSlot, undo_slot, after, after_row, Image, page_of, all_pages, after_records, EditsPages, undo_slot_of, all_pages-is, records_counts, contents_of, with_slot, with_undo, set_at, IsFormed, HasContents}
use Rattle.clone_row.specs.Slots as rows
use Rattle.clone_contents.proofs.SameContents.{set_at-same, set_at-other, same_contents}
use Rattle.clone_contents.proofs.RowSlots.{slots_same, slot_set}
use Rattle.clone_contents.proofs.ImagePages.{page_kept, all_after, slot_after}
use Rattle.clone_contents.proofs.FittingRecords.{FitAll, all_edits, formed_after}
use Rattle.clone_contents.proofs.ChangeRecords.{row_set, row_next}
use Rattle.clone_contents.proofs.NextPages.{next_same, next_kept}

-- one undo slot is another, and the others stay
pub undo_set_at : (image new : Image) (s : ℕ) (found : Option UndoSlot) → s < 64 → undo_slot_of new s ≡ found → ((n : ℕ) → n ≢ s → n < 64 → undo_slot_of new n ≡ undo_slot_of image n) → (n : ℕ) → (contents_of new).undo n ≡ set_at s found (contents_of image).undo n
undo_set_at image new s found small own others n = at (cases_eq n s) (cases_lt n 64)
  where
    at : (n ≡ s) ⊎ (n ≢ s) → (n < 64) ⊎ (64 ≤ n) → (contents_of new).undo n ≡ set_at s found (contents_of image).undo n
    at (inl same) either = ap (λ m. cond (ltb m 64) (undo_slot_of new m) None) same ∙ ap (λ b. cond b (undo_slot_of new s) None) (lt-ltb s 64 small) ∙ own ∙ sym (set_at-same s n found (contents_of image).undo same)
    at (inr other) (inl low) = ap (λ o. cond (ltb n 64) o None) (others n other low) ∙ sym (set_at-other s n found (contents_of image).undo other)
    at (inr other) (inr high) = ap (λ b. cond b (undo_slot_of new n) None) (le-ltb n 64 high) ∙ sym (ap (λ b. cond b (undo_slot_of image n) None) (le-ltb n 64 high)) ∙ sym (set_at-other s n found (contents_of image).undo other)

-- The records fit, leave the system page, and change one undo slot.
pub record SetsUndo (image : Image) (lsn : ℕ) (rs : List Record) (s : ℕ) (found : Option UndoSlot) : Type 0 where
  pub formed : IsFormed image
  pub small : s < 64
  pub fits : FitAll lsn rs (all_pages image)
  pub system : after lsn rs (all_pages image) 0 0 ≡ all_pages image 0 0
  pub own : undo_slot s (after lsn rs (all_pages image) 0) ≡ found
  pub others : (n : ℕ) → n ≢ s → undo_slot n (after lsn rs (all_pages image) 0) ≡ undo_slot_of image n

-- The records set the slot of a key on one page of a table, and change no other page of a table.
pub record SetsOne (image : Image) (lsn : ℕ) (rs : List Record) (e : UndoEntry) (value : Option (List ℕ)) (unused : Bool) : Type 0 where
  pub in_range : IsEntry e
  pub short : IfSome value (λ v. length v ≤ 64)
  pub page : List ℕ
  pub is_there : page_of image e.table e.page ≡ Some page
  pub told : unused ≡ (kind_of page == 0)
  pub row : after lsn rs (all_pages image) e.table e.page ≡ after_row unused lsn e (rows.image e.key value) (all_pages image e.table e.page)
  pub elsewhere : (t m : ℕ) → t ≢ 0 → (t ≡ e.table → m ≡ e.page → ⊥) → after lsn rs (all_pages image) t m ≡ all_pages image t m

module _ (image : Image) (lsn : ℕ) (rs : List Record) (s : ℕ) (found : Option UndoSlot) (g : SetsUndo image lsn rs s found) where
  abbrev new : Image
  new = after_records lsn image rs

  edits : AllByRecursion EditsPages rs
  edits = all_edits lsn rs (all_pages image) g.fits

  all_kept : (t m : ℕ) → after lsn rs (all_pages image) t m ≡ all_pages image t m → all_pages new t m ≡ all_pages image t m
  all_kept t m same = ap (λ (o : Option (List ℕ)). unwrap_or o []) (page_kept lsn image rs t m edits same)

  -- and the slots are these
  with_slots : (slot : ℕ → ℕ → ℕ → Slot) → ((t p j : ℕ) → (contents_of new).slot t p j ≡ slot t p j) → ((t p : ℕ) → (contents_of new).next t p ≡ (contents_of image).next t p) → HasContents new (record (with_undo s found (contents_of image)) { slot = slot })
  with_slots slot slots_are next_stays =
      let system = all_kept 0 0 g.system in (
        formed_after lsn image rs g.formed g.fits,
        same_contents (contents_of new) (record (with_undo s found (contents_of image)) { slot = slot }) (ap dictionary system) (λ n. records_counts lsn image rs n edits) slots_are next_stays
            (undo_set_at image new s found g.small (slot_after lsn image rs s edits g.formed.size g.small ∙ g.own) (λ n other low. slot_after lsn image rs n edits g.formed.size low ∙ g.others n other)) (ap (field position_at 8) system),
      )

  -- no page of a table changes
  pub undo_set : ((t m : ℕ) → t ≢ 0 → after lsn rs (all_pages image) t m ≡ all_pages image t m) → HasContents new (with_undo s found (contents_of image))
  undo_set tables = with_slots (contents_of image).slot (slots_same image new (λ t m behind. all_kept t m (tables t m behind))) (next_same image new (λ t m first. ap behind (all_kept t m (tables t m first))))

  -- the slot of a key is set on one page of a table
  pub one_set : (e : UndoEntry) (value : Option (List ℕ)) (none : Bool) → SetsOne image lsn rs e value none → HasContents new (with_slot e.table e.page e.slot (row_slot e.key value) (with_undo s found (contents_of image)))
  one_set e value none row =
      let in_table : e.table ≢ 0 = λ zero. omega (arith, zero, row.in_range.row_slot.0) in
      let same = all_pages-is image e.table e.page row.page row.is_there in
      let now : all_pages new e.table e.page ≡ after_row none lsn e (rows.image e.key value) row.page = all_after lsn image rs e.table e.page row.page edits row.is_there ∙ row.row ∙ ap (after_row none lsn e (rows.image e.key value)) same in
      let long = g.formed.whole e.table e.page row.page row.is_there in
      let kind = g.formed.tables e.table e.page row.page in_table row.is_there in
      let is_set = row_set lsn e.key value e row.page row.in_range.row_slot.3 row.in_range.key row.short long kind none row.told in
      let next_stays = row_next lsn e.key value e row.page row.in_range.row_slot.3 row.in_range.key row.short long kind none row.told in
      with_slots (with_slot e.table e.page e.slot (row_slot e.key value) (contents_of image)).slot
      (slot_set image new e.table e.page e.slot (row_slot e.key value) in_table row.in_range.row_slot.3
      (ap slots now ∙ is_set ∙ ap (λ p. set (slots p) e.slot (row_slot e.key value)) (sym same))
      (λ t m behind other. all_kept t m (row.elsewhere t m behind other)))
      (next_kept image new e.table e.page (ap behind now ∙ next_stays ∙ ap behind (sym same)) (λ t m first other. all_kept t m (row.elsewhere t m first other)))
