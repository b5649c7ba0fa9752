-- A table is made, for the contents: its space is made, and it is named in the dictionary.
use Rattle.std.proofs.Common.{◌≡◌, ◌≢◌, ◌<◌, ◌≤◌, ℕ, List, [], ◌∷◌, length, get_or, set, replicate, refl, sym, ap, ◌∙◌, arith, inl, inr, Option, Some, None, option_map, option_and_then, slice_get}
use Rattle.clone_contents.proofs.Common.{cases_eq, get_or-replicate, length-replicate, same_Some, slice_get_within, slice_get-get_or, position_at, zero_page, field-put_at_other, TableEntry, dictionary, entry_at_offset, table_bytes, table_record, IsTableEntry, dictionary-entry, Image, page_of, all_pages, after_records, get-put_same, get-put_other, page_of-elsewhere, Contents, contents_of, set_at, IsFormed, HasContents, records_of_create, MayCreate, created}
use Rattle.std.specs.FinMap as finite
use Rattle.clone_contents.proofs.SameContents.{set_at-same, set_at-other}
use Rattle.clone_contents.proofs.SystemLemmas.{system_long, system_written}
use Rattle.clone_contents.proofs.ZeroPages.{GetsZeros, zeros_come}

-- the pages of a space that is made are zero
pub made_zeros : (image : Image) (space count n : ℕ) (page : List ℕ) → page_of (finite.insert image space (replicate count zero_page)) space n ≡ Some page → page ≡ zero_page
made_zeros image space count n page is =
    let made_is : slice_get (replicate count zero_page) n ≡ Some page = ap (λ o. option_and_then (λ pages. slice_get pages n) o) (sym (get-put_same image space (replicate count zero_page))) ∙ is in
    let within = slice_get_within (replicate count zero_page) n page made_is in
    sym (same_Some (get_or (replicate count zero_page) n zero_page) page (sym (slice_get-get_or (replicate count zero_page) n zero_page within) ∙ made_is)) ∙ get_or-replicate count n zero_page zero_page (omega (arith, within, length-replicate count zero_page))

-- a space that isn't there has no page
pub absent : (image : Image) (space n : ℕ) → option_map length (finite.get image space) ≡ None → page_of image space n ≡ None
absent image space n none = at (finite.get image space) none
  where
    at : (o : Option (List (List ℕ))) → option_map length o ≡ None → option_and_then (λ pages. slice_get pages n) o ≡ None
    at None is = refl
    at (Some pages) is = absurd (let e = is in cc)

-- A space is made.

module _ (image : Image) (table buckets : ℕ) (formed : IsFormed image) (in_table : table ≢ 0) (none : (contents_of image).size table ≡ None) where
  abbrev made : Image
  made = finite.insert image table (replicate buckets zero_page)

  size_is : (t : ℕ) → (contents_of made).size t ≡ set_at table (Some buckets) (contents_of image).size t
  size_is t =
      elim (cases_eq t table) [
        | inl same ↦ ap (λ k. option_map length (finite.get made k)) same ∙ ap (option_map length) (get-put_same image table (replicate buckets zero_page)) ∙ ap (λ n. Some n) (length-replicate buckets zero_page)
            ∙ sym (set_at-same table t (Some buckets) (contents_of image).size same)
        | inr other ↦ ap (option_map length) (get-put_other image table t (replicate buckets zero_page) other) ∙ sym (set_at-other table t (Some buckets) (contents_of image).size other)
      ]

  gets : GetsZeros image made
  gets = record {
    formed = formed;
    system = ap (option_map length) (get-put_other image table 0 (replicate buckets zero_page) (λ zero. in_table (sym zero)));
    pages = λ t n. elim (cases_eq t table) [
      | inl same ↦ inr (λ zero. in_table (sym same ∙ zero), ap (λ m. page_of image m n) same ∙ absent image table n none, λ page is. made_zeros image table buckets n page (ap (λ m. page_of made m n) (sym same) ∙ is))
      | inr other ↦ inl (page_of-elsewhere image table buckets t n other)
    ];
  }

  pub space_made : HasContents made (record (contents_of image) { size = set_at table (Some buckets) (contents_of image).size })
  space_made = zeros_come image made gets (set_at table (Some buckets) (contents_of image).size) size_is

-- a table is named
pub table_named : (image : Image) (lsn entry_number : ℕ) (e : TableEntry) → IsFormed image → entry_number < 62 → IsTableEntry e
    → HasContents (after_records lsn image (table_record entry_number e ∷ [])) (record (contents_of image) { dictionary = set (contents_of image).dictionary entry_number e })
table_named image lsn entry_number e formed room fits =
    let piece = table_bytes e in
    let page = all_pages image 0 0 in
    let on : entry_at_offset entry_number ≤ length page = omega (arith, system_long image formed, room) in
    system_written image lsn (entry_at_offset entry_number) piece formed (omega arith, inr (omega (arith, room), omega (arith, room))) (set (dictionary page) entry_number e) (contents_of image).position
    (dictionary-entry lsn entry_number e page room fits (system_long image formed))
    (field-put_at_other position_at 8 (entry_at_offset entry_number) piece page (inl (omega arith)) on)

-- both together
pub create_is : (image : Image) (lsn entry_number table buckets : ℕ) → IsFormed image → MayCreate (contents_of image) entry_number table buckets → HasContents (after_records lsn image (records_of_create entry_number table buckets)) (created entry_number table buckets (contents_of image))
create_is image lsn entry_number table buckets formed may =
    let told : TableEntry = record { table = table; buckets = buckets; pages = buckets } in
    let space = space_made image table buckets formed (λ z. omega (arith, z, may.used)) may.free in
    let named = table_named (finite.insert image table (replicate buckets zero_page)) lsn entry_number told space.0 may.room (omega (arith, may.low), may.fits, may.fits) in
    (named.0, named.1 ∙ ap (λ (c : Contents). record c { dictionary = set c.dictionary entry_number told }) space.1)
