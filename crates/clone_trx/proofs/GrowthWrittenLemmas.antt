-- A change goes on behind the mini-transaction that makes its space longer.
use Rattle.std.proofs.lemmas.Bool.{cases_lt}
use Rattle.clone_law.specs.Since.{ends}
use Rattle.clone_trx.proofs.Common.{◌≡◌, ◌<◌, ◌≤◌, ◌^◌, ◌⊎◌, ◌↔◌, ℕ, Bool, true, false, List, length, sym, ap, subst, ◌∙◌, arith, inl, inr, None, IsTrue, nat_le, cond-true, cond-false, false≢true, le-leb, lt-leb, MOST_PAGES, records_of_growth, end_of, Buffered, image_of, written, SpaceFull, Change, Record, UndoEntry, Image, after_records, contents_of, is_unused, Donor, changes_of, told, IsSafe, IsKept, IsRowSlot, IsTargetFor, grown_way, slot_way, told_way, IsFullAt, TellsPages, Way, stops, lengthens}
use Rattle.clone_trx.proofs.CauseLemmas.{may_change}
use Rattle.clone_trx.proofs.GrowthKeptLemmas.{growth_keeps, growth_slot, growth_used}
use Rattle.clone_trx.proofs.KeySlotLemmas.{no_value}
use Rattle.clone_trx.proofs.WriteLemmas.{written_image, written_kept}
use Rattle.clone_trx.specs.Kept as kept

module _ (d : Donor) (trx : ℕ) (change : Change) (old mid : Buffered) (entry_number pages last : ℕ) (held : IsTrue old.right → IsKept d (image_of old)) (tells : IsTrue old.right → TellsPages (contents_of (image_of old)) change.table entry_number pages)
    (full : IsTrue old.right → IsFullAt d (image_of old) change.table last change.key) (room : pages < MOST_PAGES) (is : mid ≡ written (records_of_growth entry_number change.table pages last) old) where
  abbrev records : List Record
  records = records_of_growth entry_number change.table pages last

  abbrev lsn : ℕ
  lsn = end_of (ends old.log) records

  image_is : image_of mid ≡ after_records lsn (image_of old) records
  image_is = written_image old mid records is

  before : IsTrue mid.right → IsTrue old.right
  before = subst (λ (b : Buffered). IsTrue b.right) is

  pub grown_kept : IsTrue mid.right → IsKept d (image_of mid)
  grown_kept = written_kept d old mid records is (λ right lsn. growth_keeps d (image_of old) entry_number change.table pages last change.key lsn (held right) (tells right) room (full right))

  -- the row goes to the first slot of the new page
  module _ (entry : UndoEntry) (count : ℕ) (entry_is : entry ≡ told change.table pages change.key 0 None) (counted : count ≡ length (changes_of d trx)) where
    pub grown_for : IsSafe d → kept.MayChange d trx change → change.key < 2 ^ 64 → IsTargetFor d trx change mid entry false count
    grown_for safe may fits =
        let m = may_change d trx change.table change.key may.0 safe.locked may.1 in
        let r = safe.tables.ranges change.table m.buckets m.was_table in
        let table : entry.table ≡ change.table = ap (λ (e : UndoEntry). e.table) entry_is in
        let page : entry.page ≡ pages = ap (λ (e : UndoEntry). e.page) entry_is in
        let slot : entry.slot ≡ 0 = ap (λ (e : UndoEntry). e.slot) entry_is in
        let key : entry.key ≡ change.key = ap (λ (e : UndoEntry). e.key) entry_is in
        record {
          table = table;
          key = key;
          in_range = record {
            row_slot = (omega (arith, r.0, table), omega (arith, r.1, table), omega (arith, room, page), omega (arith, slot));
            before = inr (ap (λ (e : UndoEntry). e.state) entry_is, ap (λ (e : UndoEntry). e.value) entry_is);
            key = omega (arith, fits, key);
          };
          count = counted;
          told = λ right. entry_is ∙ (λ i. told change.table (sym page i) change.key (sym slot i) (sym (no_value d (image_of old) change.table change.key (held (before right)) (full (before right)).nowhere) i));
          row_slot = λ right. subst (λ (p : Image × ℕ × ℕ). IsRowSlot d (contents_of p.0) change.table p.1 p.2 change.key) (λ i. (sym image_is i, sym page i, sym slot i))
              (growth_slot d (image_of old) entry_number change.table pages last change.key lsn (held (before right)) (tells (before right)) room (full (before right)) 0);
          unused = λ right. sym (growth_used d (image_of old) entry_number change.table pages last change.key lsn (held (before right)) (tells (before right)) room (full (before right)))
              ∙ (λ i. is_unused (sym image_is i) (sym table i) (sym page i));
        }

    -- what is left of the way
    pub grown_is : slot_way d trx change pages 0 false None ≡ told_way trx change count false entry
    grown_is = λ i. told_way trx change (sym counted i) false (sym entry_is i)

-- a space that has all its pages gets none more, and one that hasn't does
module _ (d : Donor) (trx : ℕ) (change : Change) (last entry_number pages : ℕ) (full : Bool) (is_full : IsTrue full ↔ (MOST_PAGES ≤ pages)) where
  abbrev longer : Way
  longer = lengthens (records_of_growth entry_number change.table pages last) (slot_way d trx change pages 0 false None)

  pub full_is : full ≡ true → grown_way d trx change last entry_number pages ≡ stops SpaceFull
  full_is is = cond-true (nat_le MOST_PAGES pages) (stops SpaceFull) longer (le-leb MOST_PAGES pages (is_full.0 is))

  pub has_room : full ≡ false → pages < MOST_PAGES
  has_room not = by (cases_lt pages MOST_PAGES)
    where
      by : (pages < MOST_PAGES) ⊎ (MOST_PAGES ≤ pages) → pages < MOST_PAGES
      by (inl low) = low
      by (inr high) = absurd (false≢true (sym not ∙ is_full.1 high))

  pub room_is : full ≡ false → grown_way d trx change last entry_number pages ≡ longer
  room_is not = cond-false (nat_le MOST_PAGES pages) (stops SpaceFull) longer (lt-leb MOST_PAGES pages (has_room not))
