-- The drop of a table: what its mini-transaction asks for, and the way of the call.
use Rattle.std.proofs.Math.Nat.{min-eq_left}
use Rattle.std.proofs.lemmas.Bool.{cases_eq}
use Rattle.std.specs.FinMap as finite
use Rattle.clone_space.specs.Entries.{Finds}
use Rattle.clone_trx.proofs.Common.{◌≡◌, ◌≢◌, ◌≤◌, ◌⊎◌, inl, inr, min, ℕ, List, [], ◌∷◌, ◌++◌, length, refl, sym, ap, subst, ◌∙◌, arith, Option, Some, None, option_map, is_some, unwrap_or, IsTrue, Result, MOST_PAGES, dictionary, entry_in, records_of_drop, free_record, PageName, frame_at, name_of, Buffered, image_of, AreUnpinned, DropsSpace, still_there, drop_cause, least_holder, dropped, TableInUse, EngineRefusal, get-removed_same, nat_cmp_total, nat_cmp-IsAntisymmetric, no_table, same_Some, contents_of, Record, Donor, AreLoose, Has, IsHeld, IsKept, IsSafe, drop_at, drop_way, number_of_entry, pages_told, system_page, TellsPages, Way, Goes, Holds, let_go, page_in}
use Rattle.clone_trx.proofs.CauseLemmas.{both_none, held_there, is_not}
use Rattle.clone_trx.proofs.CreateLemmas.{no_space}
use Rattle.clone_trx.proofs.DictionaryLemmas.{entry_is}
use Rattle.clone_trx.proofs.HeldPageLemmas.{held_pins, pin_apart}
use Rattle.clone_trx.proofs.PlacedLemmas.{held_frame}
use Rattle.clone_trx.proofs.SystemPageLemmas.{system_there}
use Rattle.clone_trx.proofs.WayLemmas.{goes_on}

-- where there is no cause against it, the table is there
pub is_there : (d : Donor) (table : ℕ) → drop_cause d table ≡ None → (count : ℕ) × (finite.get d.tables table ≡ Some count)
is_there d table none =
    held_there (finite.get d.tables table) (is_not _ _ (both_none (no_table d table) (option_map TableInUse (least_holder d.locks table)) none).0)

-- its space isn't the system space
pub is_above : (d : Donor) (table : ℕ) → IsSafe d → drop_cause d table ≡ None → 1 ≤ table
is_above d table safe none = let there = is_there d table none in (safe.tables.ranges table there.0 there.1).0

-- The records of it.

module _ (d : Donor) (v : Buffered) (entry_number table pages count : ℕ) (kept : IsKept d (image_of v)) (there : finite.get d.tables table ≡ Some count) (tells : TellsPages (contents_of (image_of v)) table entry_number pages) where
  pub used : table ≢ 0
  used zero = let sizes = kept.sound.tables.sizes table count there in omega (arith, zero, sizes.1)

  most : pages ≤ MOST_PAGES
  most = let size = (kept.sound.tables.sizes table count there).0 in omega (arith, size.most, same_Some size.pages pages (sym size.size ∙ tells.1))

  pub drops_space : IsHeld (system_page 0) v.pool.frames → DropsSpace v table (min pages MOST_PAGES) (records_of_drop entry_number table)
  drops_space system = record {
    rest = free_record entry_number ∷ [];
    is = refl;
    edits = (tt, tt);
    framed = (held_frame v.pool.frames (system_page 0) system, tt);
    there = (ap is_some (still_there (image_of v) table 0 0 (λ zero. used (sym zero))) ∙ system_there (image_of v) 0 kept.formed (omega arith), tt);
    size = tells.1 ∙ ap (λ (n : ℕ). Some n) (sym (min-eq_left most));
  }

-- then its space isn't there
pub space_gone : (d : Donor) (v : Buffered) (table : ℕ) → 1 ≤ table → (IsTrue v.right → IsKept (dropped table d) (image_of v)) → IsTrue v.right → finite.get (image_of v) table ≡ None
space_gone d v table above kept right = no_space (dropped table d) (image_of v) table (kept right) above (get-removed_same nat_cmp_total nat_cmp-IsAntisymmetric d.tables table)

-- a log that has a mini-transaction more is another one
pub log_longer : (log : List (List Record)) (records : List Record) → log ++ records ∷ [] ≢ log
log_longer [] records is = absurd (omega (arith, ap length is))
log_longer (m ∷ log) records is = log_longer log records (ap tail is)
  where
    tail : List (List Record) → List (List Record)
    tail [] = []
    tail (x ∷ xs) = xs

-- The way of the call.

-- no page of the table is pinned where the system page alone is
pub unpinned : (table at : ℕ) (old mid : Buffered) → 1 ≤ table → AreLoose old.pool.frames → Holds (system_page 0) at old mid → Has (system_page 0) at mid.pool.frames → AreUnpinned table mid.pool.frames
unpinned table at old mid above loose holds has other name is of = by (cases_eq other at)
  where
    by : (other ≡ at) ⊎ (other ≢ at) → (frame_at mid.pool.frames other).pins ≡ 0
    by (inl here) =
        let same : name ≡ system_page 0 = same_Some name (system_page 0) (sym is ∙ ap (λ (n : ℕ). name_of (frame_at mid.pool.frames n)) here ∙ has.holder.name) in
        absurd (omega (arith, above, of, ap (λ (p : PageName). p.space) same))
    by (inr apart) = omega (arith, held_pins (system_page 0) at old mid holds other, loose other, pin_apart at other apart)

-- the way behind the page of the dictionary, by what was found there
pub drop_goes : {X : Type 0} (table at entry_number pages : ℕ) (page : List ℕ) (found : Option ℕ) (old mid end new : Buffered) (result : Result X EngineRefusal) → Holds (system_page 0) at old mid → page ≡ page_in at mid → Finds table (dictionary page) found → entry_number ≡ unwrap_or found 0
    → pages ≡ (entry_in (dictionary page) entry_number).pages → Goes (drop_at table entry_number pages) mid end result → new ≡ let_go at end → Goes (drop_way table) old new result
drop_goes table at entry_number pages page found old mid end new result holds bytes finds is told goes let_go_is =
    let here : entry_number ≡ number_of_entry table page = is ∙ entry_is table page found finds in
    let so : Goes (drop_at table entry_number (pages_told page entry_number)) mid end result = subst (λ (n : ℕ). Goes (drop_at table entry_number n) mid end result) told goes in
    let by : Goes (rest page) mid end result = subst (λ (p : ℕ). Goes (drop_at table p (pages_told page p)) mid end result) here so in
    goes_on (system_page 0) rest at old mid end new result holds (subst (λ (p : List ℕ). Goes (rest p) mid end result) bytes by) let_go_is
  where
    rest : List ℕ → Way
    rest p = drop_at table (number_of_entry table p) (pages_told p (number_of_entry table p))
