-- The target of a change, as it was found on a page of the row's chain, and the way behind it.
use Rattle.clone_trx.proofs.Common.{◌≡◌, ◌<◌, ◌^◌, ◌==◌, ℕ, List, [], length, sym, ap, subst, ◌∙◌, arith, Option, Some, IsSome, IsTrue, unwrap_or, MOST_PAGES, row_slot_count, PageName, Buffered, IsBuffer, image_of, kind_of, Change, UndoEntry, IsEntry, IsBefore, Image, page_of, all_pages, all_pages-is, Donor, changes_of, contents_of, told, state_of_row, held_value, AreTables, IsSafe, IsKept, IsRowSlot, IsTargetFor, Has, change_at, is_new, row_page, told_way, page_in}
use Rattle.clone_trx.proofs.CauseLemmas.{MayChange, may_change}
use Rattle.clone_trx.specs.Kept as kept
use Rattle.clone_trx.proofs.KeySlotLemmas.{held_is}
use Rattle.clone_trx.proofs.SystemPageLemmas.{page_shown}

-- a page that is held is the one of the image, if it is there
pub held_page : (b : Buffered) (page : PageName) (at : ℕ) → IsBuffer b → Has page at b.pool.frames → IsTrue b.right → IsSome (page_of (image_of b) page.space page.number) → page_of (image_of b) page.space page.number ≡ Some (page_in at b)
held_page b page at is has right there = page_shown (image_of b) b.pool.frames page at (is.shows right) has there

-- a change against which there is no cause, and the slot that was found for it
pub record IsFound (d : Donor) (trx : ℕ) (change : Change) (row : List ℕ) (page at kind count : ℕ) (entry : UndoEntry) : Type 0 where
  pub may : MayChange d trx change.table change.key
  pub tables : AreTables d.tables
  pub low : (page < MOST_PAGES) × (at < row_slot_count)
  pub entry_is : entry ≡ told change.table page change.key at (held_value row at)
  pub before : IsBefore entry.state entry.value
  pub fits : change.key < 2 ^ 64
  pub kind_is : kind ≡ kind_of row
  pub counted : count ≡ length (changes_of d trx)

pub is_found : (d : Donor) (trx : ℕ) (change : Change) (row : List ℕ) (page at kind count state : ℕ) (value : List ℕ) (entry : UndoEntry) → IsSafe d → kept.MayChange d trx change → (page < MOST_PAGES) × (at < row_slot_count)
    → entry ≡ record { table = change.table; page = page; slot = at; state = state; key = change.key; value = value } → state ≡ state_of_row (held_value row at) → value ≡ unwrap_or (held_value row at) [] → IsBefore state value → change.key < 2 ^ 64 → kind ≡ kind_of row
    → count ≡ length (changes_of d trx) → IsFound d trx change row page at kind count entry
is_found d trx change row page at kind count state value entry safe may low made of_state of_value before fits kind_is counted = record {
  may = may_change d trx change.table change.key may.0 safe.locked may.1;
  tables = safe.tables;
  low = low;
  entry_is = made ∙ (λ i. record { table = change.table; page = page; slot = at; state = of_state i; key = change.key; value = of_value i });
  before = subst (λ (e : UndoEntry). IsBefore e.state e.value) (sym made) before;
  fits = fits;
  kind_is = kind_is;
  counted = counted;
}

module _ (d : Donor) (trx : ℕ) (change : Change) (row : List ℕ) (page at kind count : ℕ) (entry : UndoEntry) (f : IsFound d trx change row page at kind count entry) where
  in_table : entry.table ≡ change.table
  in_table = ap (λ (e : UndoEntry). e.table) f.entry_is

  on_page : entry.page ≡ page
  on_page = ap (λ (e : UndoEntry). e.page) f.entry_is

  at_slot : entry.slot ≡ at
  at_slot = ap (λ (e : UndoEntry). e.slot) f.entry_is

  of_key : entry.key ≡ change.key
  of_key = ap (λ (e : UndoEntry). e.key) f.entry_is

  in_range : IsEntry entry
  in_range =
      let r = f.tables.ranges change.table f.may.buckets f.may.was_table in
      record { row_slot = (omega (arith, r.0, in_table), omega (arith, r.1, in_table), omega (arith, f.low.0, on_page), omega (arith, f.low.1, at_slot)); before = f.before; key = omega (arith, f.fits, of_key) }

  -- its page is the one of the row
  pub row_page_is : row_page entry ≡ record { space = change.table; number = page }
  row_page_is = λ i. record { space = in_table i; number = on_page i }

  pub target_found : (b : Buffered) → (IsTrue b.right → IsKept d (image_of b)) → (IsTrue b.right → page_of (image_of b) change.table page ≡ Some row) → (IsTrue b.right → IsRowSlot d (contents_of (image_of b)) change.table page at change.key)
      → IsTargetFor d trx change b entry (kind == 0) count
  target_found b kept there row_slot = record {
    table = in_table;
    key = of_key;
    in_range = in_range;
    count = f.counted;
    told = λ right. f.entry_is ∙ (λ i. told change.table (sym on_page i) change.key (sym at_slot i) (held_is d (image_of b) change.table change.key (kept right) page at (row_slot right) row (there right) i));
    row_slot = λ right. subst (λ (p : ℕ × ℕ). IsRowSlot d (contents_of (image_of b)) change.table p.0 p.1 change.key) (λ i. (sym on_page i, sym at_slot i)) (row_slot right);
    unused = λ right. ap (λ (n : ℕ). n == 0) (f.kind_is ∙ ap kind_of (sym (same (image_of b) (there right))));
  }
    where
      same : (image : Image) → page_of image change.table page ≡ Some row → all_pages image entry.table entry.page ≡ row
      same image there = (λ i. all_pages image (in_table i) (on_page i)) ∙ all_pages-is image change.table page row there

  -- the way behind the row's page, by what was found
  pub way_is : (slot : Option ℕ) → slot ≡ Some at → told_way trx change count (kind == 0) entry ≡ change_at d trx change page slot row
  way_is slot found =
      let new_is : (kind == 0) ≡ is_new row = ap (λ (n : ℕ). n == 0) f.kind_is in
      let way : told_way trx change count (kind == 0) entry ≡ change_at d trx change page (Some at) row = λ i. told_way trx change (f.counted i) (new_is i) (f.entry_is i) in
      way ∙ ap (λ (o : Option ℕ). change_at d trx change page o row) (sym found)
