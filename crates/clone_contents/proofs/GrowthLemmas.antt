-- The space of a table gets one page more, for the contents: its entry tells so, a page of zero
-- bytes comes and is made, and the page at the end of a chain names it.
use Rattle.std.proofs.Common.{◌≡◌, ◌≢◌, ◌<◌, ◌≤◌, ◌+◌, ◌^◌, ◌==◌, ◌⊎◌, ℕ, false, cond, List, [], ◌∷◌, length, set, refl, sym, ap, ◌∙◌, arith, inl, inr, Option, Some, None, ne_eqb}
use Rattle.std.proofs.lemmas.Bool.{eqb-false}
use Rattle.clone_contents.proofs.Common.{cases_eq, same_Some, big_bytes, field-put_at_other, position_at, kind_of, zero_page, Overflow, IsAllowed, effect, Record, Init, Extend, behind, behind-made, slots, slots-zero, slots-initialised, dictionary, entry_in, dictionary-size, pages_at, size_record, link_record, records_of_growth, Image, page_of, all_pages, after_records, all_pages-is, page_count, Contents, contents_of, set_at, HoldsSlots, IsFormed, HasContents, is_unused}
use Rattle.clone_page.specs.Header.{next_of, no_page}
use Rattle.clone_row.proofs.Rows.{slots-WritesHeader}
use Rattle.clone_space.proofs.WriteLemmas as space
use Rattle.clone_undo.proofs.Edits.{edit-same, edit-other}
use Rattle.clone_contents.specs.Spaces.{MayGrow, grown}
use Rattle.clone_contents.proofs.SameContents.{set_at-same, set_at-other}
use Rattle.clone_contents.proofs.ImagePages.{there}
use Rattle.clone_contents.proofs.FittingRecords.{table_page}
use Rattle.clone_contents.proofs.ChangeRecords.{used_kind}
use Rattle.clone_contents.proofs.SystemLemmas.{entry_within, system_long, system_written, others}
use Rattle.clone_contents.proofs.NextPages.{next_is, next_at, next_kept, behind-zero}
use Rattle.clone_contents.proofs.ExtendLemmas.{space_longer, page_stays, page_comes}
use Rattle.clone_contents.proofs.TablePages.{EditsTable, next_changes, page_now, all_kept}

-- an entry tells another number of pages
size_allowed : (entry_number pages : ℕ) → entry_number < 62 → IsAllowed (pages_at entry_number) (length (big_bytes 4 pages))
size_allowed entry_number pages room = (omega arith, inr (omega (arith, room), omega (arith, room)))

size_written : (image : Image) (lsn entry_number pages : ℕ) → IsFormed image → entry_number < 62 → pages < 2 ^ 32
    → HasContents (after_records lsn image (size_record entry_number pages ∷ [])) (record (contents_of image) { dictionary = set (contents_of image).dictionary entry_number (record (entry_in (contents_of image).dictionary entry_number) { pages = pages }) })
size_written image lsn entry_number pages formed room fits =
    let page = all_pages image 0 0 in
    let on : pages_at entry_number ≤ length page = omega (arith, system_long image formed, room) in
    system_written image lsn (pages_at entry_number) (big_bytes 4 pages) formed (size_allowed entry_number pages room) (set (dictionary page) entry_number (record (entry_in (dictionary page) entry_number) { pages = pages })) (contents_of image).position
    (dictionary-size lsn entry_number pages page room fits (system_long image formed))
    (field-put_at_other position_at 8 (pages_at entry_number) (big_bytes 4 pages) page (inl (omega arith)) on)

-- An unused page of a table is made as an overflow page, which changes no contents.

module _ (image : Image) (lsn table n : ℕ) (formed : IsFormed image) (in_table : table ≢ 0) (zeros : page_of image table n ≡ Some zero_page) where
  abbrev made : Record
  made = Init table n Overflow

  making : EditsTable image lsn made table n
  making = record {
    formed = formed;
    in_table = in_table;
    page = zero_page;
    is_there = zeros;
    fits = (λ zero. absurd (in_table zero), λ zero. absurd (in_table zero), λ other. inr refl);
    others = λ u m apart. edit-other table n u m (effect lsn made) (all_pages image) apart;
    slots_stay = ap slots (edit-same table n (effect lsn made) (all_pages image)) ∙ slots-initialised table n lsn Overflow ∙ sym slots-zero ∙ ap slots (sym (all_pages-is image table n zero_page zeros));
  }

  page_made : HasContents (after_records lsn image (made ∷ [])) (contents_of image)
  page_made =
      next_changes image lsn made table n making (contents_of image).next
      (next_kept image (after_records lsn image (made ∷ [])) table n
      (ap behind (page_now image lsn made table n making ∙ edit-same table n (effect lsn made) (all_pages image)) ∙ behind-made table n lsn Overflow ∙ sym behind-zero ∙ ap behind (sym (all_pages-is image table n zero_page zeros)))
      (λ u m first apart. all_kept image lsn made table n making u m apart))

-- A page of a table that was used gets another behind it.

behind-some : (page : List ℕ) (n : ℕ) → kind_of page ≢ 0 → next_of page ≡ n → n ≢ no_page → behind page ≡ Some n
behind-some page n used is other =
    ap (λ b. cond b None (cond (next_of page == no_page) None (Some (next_of page)))) (ne_eqb (kind_of page) 0 used)
    ∙ ap (λ k. cond (k == no_page) None (Some k)) is ∙ ap (λ b. cond b None (Some n)) (ne_eqb n no_page other)

module _ (image : Image) (lsn table last n : ℕ) (formed : IsFormed image) (in_table : table ≢ 0) (page : List ℕ) (is_there : page_of image table last ≡ Some page) (holds : HoldsSlots page) (used : kind_of (all_pages image table last) ≢ 0) (low : n < 65536) where
  abbrev linked : Record
  linked = link_record table last n

  abbrev new : Image
  new = after_records lsn image (linked ∷ [])

  abbrev old : List ℕ
  old = all_pages image table last

  allowed : IsAllowed 12 (length (big_bytes 4 n))
  allowed = (omega arith, inl (omega arith, omega arith))

  long : length old ≡ 4096
  long = ap length (all_pages-is image table last page is_there) ∙ formed.whole table last page is_there

  linking : EditsTable image lsn linked table last
  linking = record {
    formed = formed;
    in_table = in_table;
    page = page;
    is_there = is_there;
    fits = (allowed, table_page image table last page formed in_table is_there holds);
    others = λ u m apart. edit-other table last u m (effect lsn linked) (all_pages image) apart;
    slots_stay = ap slots (edit-same table last (effect lsn linked) (all_pages image)) ∙ slots-WritesHeader lsn (record { offset = 12; bytes = big_bytes 4 n }) old (record { allowed = allowed; before = omega arith }) long;
  }

  own : behind (all_pages new table last) ≡ Some n
  own =
      let keeps = space.keeps lsn 12 (big_bytes 4 n) old allowed long in
      ap behind (page_now image lsn linked table last linking ∙ edit-same table last (effect lsn linked) (all_pages image))
      ∙ behind-some (effect lsn linked old) n (λ none. used (sym keeps.kind ∙ none)) (space.next-written lsn n old (omega (arith, low)) long) (λ none. omega (arith, none, low))

  abbrev next : ℕ → ℕ → Option ℕ
  next = set_at table (set_at last (Some n) ((contents_of image).next table)) (contents_of image).next

  next_now : (u m : ℕ) → (u ≡ table) ⊎ (u ≢ table) → (m ≡ last) ⊎ (m ≢ last) → (contents_of new).next u m ≡ next u m
  next_now u m (inr other) second = next_at image new u m (λ first. ap behind (all_kept image lsn linked table last linking u m (λ e f. other e))) ∙ sym (ap (λ (f : ℕ → Option ℕ). f m) (set_at-other table u (set_at last (Some n) ((contents_of image).next table)) (contents_of image).next other))
  next_now u m (inl same) (inr other) =
      next_at image new u m (λ first. ap behind (all_kept image lsn linked table last linking u m (λ e f. other f)))
      ∙ ap (λ t. (contents_of image).next t m) same ∙ sym (set_at-other last m (Some n) ((contents_of image).next table) other)
      ∙ sym (ap (λ (f : ℕ → Option ℕ). f m) (set_at-same table u (set_at last (Some n) ((contents_of image).next table)) (contents_of image).next same))
  next_now u m (inl same) (inl it) =
      (λ i. (contents_of new).next (same i) (it i)) ∙ next_is new table last in_table ∙ own ∙ sym (set_at-same last m (Some n) ((contents_of image).next table) it)
      ∙ sym (ap (λ (f : ℕ → Option ℕ). f m) (set_at-same table u (set_at last (Some n) ((contents_of image).next table)) (contents_of image).next same))

  page_linked : HasContents new (record (contents_of image) { next = next })
  page_linked = next_changes image lsn linked table last linking next (λ u m. next_now u m (cases_eq u table) (cases_eq m last))

-- ALL OF THEM TOGETHER
module _ (image : Image) (lsn entry_number table pages last : ℕ) (formed : IsFormed image) (may : MayGrow (contents_of image) entry_number table pages last) (was_used : is_unused image table last ≡ false) where
  room : entry_number < 62
  room = entry_within image entry_number table may.named may.used

  low : last < pages
  low = omega (arith, may.there.2, same_Some may.there.0 pages (sym may.there.1 ∙ may.size))

  abbrev told : Image
  told = after_records lsn image (size_record entry_number (pages + 1) ∷ [])

  abbrev longer : Image
  longer = after_records lsn told (Extend table (pages + 1) ∷ [])

  abbrev made_last : Image
  made_last = after_records lsn longer (Init table pages Overflow ∷ [])

  one : HasContents told (record (contents_of image) { dictionary = set (contents_of image).dictionary entry_number (record (entry_in (contents_of image).dictionary entry_number) { pages = pages + 1 }) })
  one = size_written image lsn entry_number (pages + 1) formed room (omega (arith, may.room))

  size : page_count told table ≡ Some pages
  size = ap (λ (c : Contents). c.size table) one.1 ∙ may.size

  two : HasContents longer (record (contents_of told) { size = set_at table (Some (pages + 1)) (contents_of told).size })
  two = space_longer told lsn table pages (pages + 1) one.0 may.used size (omega arith)

  three : HasContents made_last (contents_of longer)
  three = page_made longer lsn table pages two.0 may.used (page_comes told lsn table pages (pages + 1) one.0 may.used size (omega arith) pages (omega arith) (omega arith))

  -- the last page of the chain stays so far
  found : (page : List ℕ) × (page_of told table last ≡ Some page)
  found = there told table last pages size low

  last_stays : all_pages made_last table last ≡ all_pages image table last
  last_stays =
      let zeros = page_comes told lsn table pages (pages + 1) one.0 may.used size (omega arith) pages (omega arith) (omega arith) in
      all_kept longer lsn (Init table pages Overflow) table pages (making longer lsn table pages two.0 may.used zeros) table last (λ same page. omega (arith, page, low))
      ∙ all_pages-is longer table last found.0 (page_stays told lsn table pages (pages + 1) one.0 may.used size (omega arith) last found.0 found.1)
      ∙ sym (all_pages-is told table last found.0 found.1)
      ∙ others image lsn (pages_at entry_number) (big_bytes 4 (pages + 1)) formed (size_allowed entry_number (pages + 1) room) table last (λ zero first. may.used zero)

  four : HasContents (after_records lsn made_last (link_record table last pages ∷ [])) (record (contents_of made_last) { next = set_at table (set_at last (Some pages) ((contents_of made_last).next table)) (contents_of made_last).next })
  four =
      let size_now : page_count made_last table ≡ Some (pages + 1) = ap (λ (c : Contents). c.size table) (three.1 ∙ two.1) ∙ set_at-same table table (Some (pages + 1)) (contents_of told).size refl in
      let page = there made_last table last (pages + 1) size_now (omega (arith, low)) in
      let is_used : (kind_of page.0 == 0) ≡ false = ap (λ p. kind_of p == 0) (sym (all_pages-is made_last table last page.0 page.1) ∙ last_stays) ∙ was_used in
      page_linked made_last lsn table last pages three.0 may.used page.0 page.1 (used_kind page.0 (three.0.tables table last page.0 may.used page.1) is_used)
      (eqb-false (kind_of (all_pages made_last table last)) 0 (ap (λ p. kind_of p == 0) last_stays ∙ was_used)) may.room

  pub grown_is : HasContents (after_records lsn image (records_of_growth entry_number table pages last)) (grown entry_number table pages last (contents_of image))
  grown_is = (
    four.0,
    four.1
        ∙ ap (λ (c : Contents). record c { next = set_at table (set_at last (Some pages) (c.next table)) c.next }) (three.1 ∙ two.1 ∙ ap (λ (c : Contents). record c { size = set_at table (Some (pages + 1)) c.size }) one.1),
  )
