-- The dictionary as a list of entries: the first free one, and an entry that is written.
use Rattle.std.proofs.lemmas.List.{length-replicate}
use Rattle.std.proofs.lemmas.Grind.{get_or-set_at}
use Rattle.std.proofs.lemmas.Bool.{cases_lt}
use Rattle.std.specs.FinMap as finite
use Rattle.clone_space.specs.Entries.{Finds, FindsFree}
use Rattle.clone_space.proofs.RoomLemmas.{room}
use Rattle.clone_trx.proofs.Common.{◌≡◌, ◌≢◌, ◌<◌, ◌==◌, ℕ, List, length, set, replicate, sym, ap, subst, ◌∙◌, arith, inl, inr, Option, Some, None, IsSome, is_some, unwrap_or, get_or-replicate, get_or-set_other, get_or_past, eq-eqb, TableEntry, dictionary, entry_in, free, length-dictionary, all_pages-is, Image, page_of, all_pages, contents_of, TABLE_LIMIT, Donor, IsKept, number_of_entry, pages_told, TellsPages}
use Rattle.clone_trx.proofs.CauseLemmas.{not_equal}
use Rattle.clone_trx.proofs.FindFirstLemmas.{finds_first, finds_none}
use Rattle.clone_trx.specs.RowSlots.{named_entry}

-- an entry that is written, and all others
pub entry-written : (list : List TableEntry) (entry_number j : ℕ) (e : TableEntry) → entry_number < length list → j ≡ entry_number → entry_in (set list entry_number e) j ≡ e
entry-written list entry_number j e within same = get_or-set_at list entry_number j e free same within

pub entry-other : (list : List TableEntry) (entry_number j : ℕ) (e : TableEntry) → j ≢ entry_number → entry_in (set list entry_number e) j ≡ entry_in list j
entry-other list entry_number j e apart = get_or-set_other list entry_number j e free apart

-- a dictionary of free entries names no table
pub names_none : (j : ℕ) → (entry_in (replicate 62 free) j).table ≡ 0
names_none j =
    elim (cases_lt j 62) [
      | inl low ↦ ap (λ (e : TableEntry). e.table) (get_or-replicate 62 j free free low)
      | inr high ↦ ap (λ (e : TableEntry). e.table) (get_or_past (replicate 62 free) j free (omega (arith, length-replicate 62 free, high)))
    ]

-- The first entry that names a table. One that names the table 0 is free.

pub named_is : (table : ℕ) (list : List TableEntry) (found : Option ℕ) → Finds table list found → named_entry table list ≡ found
unfolding named_entry
named_is table list None none = finds_none (λ j. (entry_in list j).table == table) 0 62 (λ k low. not_equal (entry_in list k).table table (none k low))
named_is table list (Some j) found =
    finds_first (λ k. (entry_in list k).table == table) 0 62 j (omega arith) found.0 (eq-eqb (entry_in list j).table table found.1) (λ k low. not_equal (entry_in list k).table table (found.2 k low))

-- the number of it
pub entry_is : (table : ℕ) (page : List ℕ) (found : Option ℕ) → Finds table (dictionary page) found → unwrap_or found 0 ≡ number_of_entry table page
entry_is table page found finds = ap (λ o. unwrap_or o 0) (sym (named_is table (dictionary page) found finds))

-- what was found on a page with these bytes, and what the entry tells
pub entry_told : (table entry_number : ℕ) (bytes page : List ℕ) (found : Option ℕ) (entry : TableEntry) → page ≡ bytes → Finds table (dictionary page) found → entry_number ≡ unwrap_or found 0 → entry ≡ entry_in (dictionary page) entry_number
    → (number_of_entry table bytes ≡ entry_number) × (pages_told bytes (number_of_entry table bytes) ≡ entry.pages)
entry_told table entry_number bytes page found entry same finds is told =
    let here : number_of_entry table bytes ≡ entry_number = ap (number_of_entry table) (sym same) ∙ sym (is ∙ entry_is table page found finds) in
    (here, (λ i. pages_told (sym same i) (here i)) ∙ ap (λ (e : TableEntry). e.pages) (sym told))

pub entry_low : (table : ℕ) (list : List TableEntry) (found : Option ℕ) → Finds table list found → unwrap_or found 0 < 62
entry_low table list None none = omega arith
entry_low table list (Some j) found = found.0

entry_free : (list : List TableEntry) (found : Option ℕ) → FindsFree list found → IsSome found → (entry_in list (unwrap_or found 0)).table ≡ 0
entry_free list None none some = absurd (let e = some in cc)
entry_free list (Some j) found some = found.1

-- so there is one, where the image keeps what the donor is, and there is room for a table
pub has_free : (d : Donor) (image : Image) (page : List ℕ) (found : Option ℕ) → IsKept d image → page_of image 0 0 ≡ Some page → finite.len d.tables < TABLE_LIMIT → FindsFree (dictionary page) found
    → (entry_in (contents_of image).dictionary (unwrap_or found 0)).table ≡ 0
has_free d image page found kept there few finds =
    let system : List ℕ = all_pages image 0 0 in
    let tables = kept.sound.tables in
    let here : FindsFree (dictionary system) found = subst (λ (p : List ℕ). FindsFree (dictionary p) found) (sym (all_pages-is image 0 0 page there)) finds in
    entry_free (dictionary system) found here (room d.tables system found tables.once tables.tables few here)

-- The entry of a table tells how many pages its space has, where the image keeps what the donor is.

-- an entry that names a table is one of the 62
named_low : (list : List TableEntry) (j : ℕ) → length list ≡ 62 → (entry_in list j).table ≢ 0 → j < 62
named_low list j long used =
    elim (cases_lt j 62) [
      | inl low ↦ low
      | inr high ↦ absurd (used (ap (λ (e : TableEntry). e.table) (get_or_past list j free (omega (arith, long, high)))))
    ]

module _ (d : Donor) (image : Image) (table count : ℕ) (kept : IsKept d image) (there : finite.get d.tables table ≡ Some count) where
  abbrev list : List TableEntry
  list = (contents_of image).dictionary

  found_named : (found : Option ℕ) → Finds table list found → (entry_in list (unwrap_or found 0)).table ≡ table
  found_named (Some j) found = found.1
  found_named None none =
      let tables = kept.sound.tables in
      let on = tables.listed table (ap is_some there) in
      let used : table ≢ 0 = λ zero. omega (arith, zero, (tables.sizes table count there).1) in
      absurd (none on.0 (named_low list on.0 (length-dictionary (all_pages image 0 0)) (λ zero. used (sym on.1 ∙ zero))) on.1)

  pub tells_pages : (page : List ℕ) (found : Option ℕ) → page_of image 0 0 ≡ Some page → Finds table (dictionary page) found → TellsPages (contents_of image) table (unwrap_or found 0) (entry_in (dictionary page) (unwrap_or found 0)).pages
  tells_pages page found system finds =
      let same : all_pages image 0 0 ≡ page = all_pages-is image 0 0 page system in
      let size = (kept.sound.tables.sizes table count there).0 in
      let named = found_named found (subst (λ (p : List ℕ). Finds table (dictionary p) found) (sym same) finds) in
      let told = kept.sound.tables.told table count size.pages (unwrap_or found 0) there size.size named in
      (named, size.size ∙ ap (λ (e : TableEntry). Some e.pages) (sym told) ∙ ap (λ (p : List ℕ). Some (entry_in (dictionary p) (unwrap_or found 0)).pages) same)
