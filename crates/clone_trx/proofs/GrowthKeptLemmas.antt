-- The mini-transaction that makes the space of a table longer keeps what the donor is, and may be
-- written where its pages are held.
use Rattle.clone_page.proofs.Parts.{kind_of-initialised}
use Rattle.clone_mtr.specs.Effects.{effect}
use Rattle.clone_undo.proofs.Edits.{edit-same, edit-other}
use Rattle.clone_contents.proofs.ExtendLemmas.{page_comes, page_stays}
use Rattle.clone_contents.proofs.GrowthLemmas.{grown_is}
use Rattle.clone_contents.proofs.ImagePages.{there, page_before}
use Rattle.clone_trx.proofs.Common.{◌≡◌, ◌<◌, ◌≤◌, ◌+◌, ◌%◌, ◌==◌, ℕ, true, false, List, [], ◌∷◌, refl, sym, ap, subst, ◌∙◌, arith, Some, is_some, mod-lt, cond-true, MOST_PAGES, Overflow, Init, Extend, size_record, link_record, records_of_growth, after, MayGrow, grown, is_own_name, PageName, is_name_of, Buffered, image_of, Lengthens, any_names, page_there, IsHeld, all_pages-is, kind_of, is_unused, Record, Image, page_of, all_pages, after_records, Contents, contents_of, HasContents, set_at-same, Donor, IsRowSlot, IsSound, IsKept, system_page, IsFullAt, TellsPages}
use Rattle.clone_trx.proofs.ChainLemmas.{on_there}
use Rattle.clone_trx.proofs.GrowthLemmas.{IsLastOf, new_apart, grown_sound, new_slot}
use Rattle.clone_trx.proofs.PlacedLemmas.{held_frame}
use Rattle.clone_trx.proofs.SystemPageLemmas.{system_there}

module _ (d : Donor) (image : Image) (entry_number table pages last key lsn : ℕ) (kept : IsKept d image) (tells : TellsPages (contents_of image) table entry_number pages) (room : pages < MOST_PAGES) (full : IsFullAt d image table last key) where
  abbrev c : Contents
  c = contents_of image

  abbrev new : Image
  new = after_records lsn image (records_of_growth entry_number table pages last)

  -- what the mini-transaction asks for
  may_grow : MayGrow c entry_number table pages last
  may_grow =
      let sizes = kept.sound.tables.sizes table full.count full.there in
      record {
        named = tells.0;
        used = λ zero. omega (arith, zero, sizes.1);
        size = tells.1;
        room = room;
        there = on_there kept.sound.chains table full.count (key % full.count) last full.there (mod-lt key (omega (arith, sizes.3))) full.chain;
      }

  is_last : IsLastOf d c table last key
  is_last = record { count = full.count; there = full.there; chain = full.chain; end = full.last }

  has : HasContents new (grown entry_number table pages last c)
  has = grown_is image lsn entry_number table pages last kept.formed may_grow full.used

  pub growth_keeps : IsKept d new
  growth_keeps = record { formed = has.0; sound = subst (IsSound d) (sym has.1) (grown_sound d c entry_number table pages last key kept.sound may_grow is_last) }

  -- the row of the key may go to each slot of the new page
  pub growth_slot : (j : ℕ) → IsRowSlot d (contents_of new) table pages j key
  growth_slot j = subst (λ (now : Contents). IsRowSlot d now table pages j key) (sym has.1) (new_slot d c entry_number table pages last key kept.sound may_grow is_last j full.nowhere)

  -- the new page is there, and it is made
  pub growth_page : (page : List ℕ) × (page_of new table pages ≡ Some page)
  growth_page = there new table pages (pages + 1) (ap (λ (now : Contents). now.size table) has.1 ∙ set_at-same table table (Some (pages + 1)) c.size refl) (omega arith)

  abbrev made : Record
  made = Init table pages Overflow

  abbrev linked : Record
  linked = link_record table last pages

  abbrev longer : Image
  longer = after_records lsn image (size_record entry_number (pages + 1) ∷ Extend table (pages + 1) ∷ [])

  pub growth_used : is_unused new table pages ≡ false
  growth_used =
      let before = page_before lsn longer (made ∷ linked ∷ []) table pages growth_page.0 (tt, (tt, tt)) growth_page.1 in
      let page : all_pages new table pages ≡ effect lsn made (all_pages longer table pages) =
      all_pages-is new table pages growth_page.0 growth_page.1 ∙ before.2
      ∙ edit-other table last table pages (effect lsn linked) (after lsn (made ∷ []) (all_pages longer)) (λ same it. new_apart d c entry_number table pages last key kept.sound may_grow is_last it)
      ∙ edit-same table pages (effect lsn made) (all_pages longer) in
      ap (λ (p : List ℕ). kind_of p == 0) page ∙ ap (λ (n : ℕ). n == 0) (kind_of-initialised table pages Overflow lsn)

-- The pages that it names have frames, and are there once the space is longer.
module _ (d : Donor) (v : Buffered) (entry_number table pages last key : ℕ) (kept : IsKept d (image_of v)) (tells : TellsPages (contents_of (image_of v)) table entry_number pages) (room : pages < MOST_PAGES) (full : IsFullAt d (image_of v) table last key) where
  may : MayGrow (contents_of (image_of v)) entry_number table pages last
  may = may_grow d (image_of v) entry_number table pages last key 0 kept tells room full

  abbrev new_name : PageName
  new_name = record { space = table; number = pages }

  abbrev rest : List Record
  rest = Init table pages Overflow ∷ link_record table last pages ∷ []

  names_new : any_names new_name rest ≡ true
  names_new = cond-true (is_name_of new_name (Some new_name)) true (any_names new_name (link_record table last pages ∷ [])) (is_own_name new_name)

  pub lengthens : IsHeld (system_page 0) v.pool.frames → IsHeld new_name v.pool.frames → IsHeld (record { space = table; number = last }) v.pool.frames → Lengthens v (records_of_growth entry_number table pages last)
  lengthens system new behind =
      let image : Image = image_of v in
      let more : pages ≤ pages + 1 = omega arith in
      let comes = page_comes image 0 table pages (pages + 1) kept.formed may.used tells.1 more pages (omega arith) (omega arith) in
      let was = page_there image table last may.there in
      let stays = page_stays image 0 table pages (pages + 1) kept.formed may.used tells.1 more last was.0 was.1 in
      record {
        front = size_record entry_number (pages + 1) ∷ [];
        space = table;
        pages = pages + 1;
        rest = rest;
        is = refl;
        edits = ((tt, tt), (tt, (tt, tt)));
        framed = (held_frame v.pool.frames (system_page 0) system, (tt, (held_frame v.pool.frames new_name new, (held_frame v.pool.frames (record { space = table; number = last }) behind, tt))));
        before = (system_there image 0 kept.formed (omega arith), tt);
        behind = (ap is_some comes, (ap is_some stays, tt));
        count = pages;
        size = tells.1;
        named = λ number low high. subst (λ (n : ℕ). any_names (record { space = table; number = n }) rest ≡ true) (let same : pages ≡ number = omega (arith, low, high) in same) names_new;
      }
