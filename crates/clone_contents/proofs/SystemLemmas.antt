-- A write on the system page, for the contents: it changes the dictionary or the position and nothing else.
use Rattle.std.proofs.Common.{◌≡◌, ◌≢◌, ◌<◌, ◌≤◌, ℕ, cond, List, [], ◌∷◌, length, refl, sym, ap, ◌∙◌, arith, inl, inr, Option, None, nat_lt, unwrap_or}
use Rattle.clone_contents.proofs.Common.{cases_lt, put_at, field, entry_space, position_at, with_lsn, IsAllowed, length-put_allowed, Record, Write, TableEntry, dictionary, free, length-dictionary, entry_in-dictionary, behind, field-stamped, Image, all_pages, after_records, page_of-edited_same, page_of-edited_other, all_pages-is, page_count-edited, contents_of, named, IsFormed, HasContents}
use Rattle.clone_undo.proofs.Effects as undo
use Rattle.clone_contents.proofs.SameContents.{same_contents}
use Rattle.clone_contents.proofs.ImagePages.{there}
use Rattle.clone_contents.proofs.FittingRecords.{formed_after}
use Rattle.clone_contents.proofs.RowSlots.{slots_same}
use Rattle.clone_contents.proofs.NextPages.{next_same}
use Rattle.std.proofs.lemmas.List.{get_or_past}

-- the entries of the dictionary
pub named_on : (image : Image) (j : ℕ) → j < 62 → named (contents_of image) j ≡ entry_space j (all_pages image 0 0)
named_on image j low = ap (λ (e : TableEntry). e.table) (entry_in-dictionary j (all_pages image 0 0) low)

pub named_past : (image : Image) (j : ℕ) → 62 ≤ j → named (contents_of image) j ≡ 0
named_past image j high =
    let list = dictionary (all_pages image 0 0) in
    ap (λ (e : TableEntry). e.table) (get_or_past list j free (omega (arith, high, length-dictionary (all_pages image 0 0))))

-- the number of an entry that names a table is one of the dictionary
pub entry_within : (image : Image) (entry_number table : ℕ) → named (contents_of image) entry_number ≡ table → table ≢ 0 → entry_number < 62
entry_within image entry_number table is used = elim (cases_lt entry_number 62) [ inl low ↦ low | inr high ↦ absurd (used (sym is ∙ named_past image entry_number high)) ]

pub system_long : (image : Image) → IsFormed image → length (all_pages image 0 0) ≡ 4096
system_long image formed =
    let system = there image 0 0 257 formed.size (omega arith) in
    ap length (all_pages-is image 0 0 system.0 system.1) ∙ formed.whole 0 0 system.0 system.1

module _ (image : Image) (lsn at : ℕ) (piece : List ℕ) (formed : IsFormed image) (allowed : IsAllowed at (length piece)) where
  abbrev write : List Record
  write = Write 0 0 record { offset = at; bytes = piece } ∷ []

  abbrev new : Image
  new = after_records lsn image write

  -- the system page, without its new page LSN
  abbrev put : List ℕ
  put = put_at at piece (all_pages image 0 0)

  long : length put ≡ 4096
  long = length-put_allowed at piece (all_pages image 0 0) allowed (system_long image formed)

  now : all_pages new 0 0 ≡ with_lsn lsn put
  now =
      let system = there image 0 0 257 formed.size (omega arith) in
      all_pages-is new 0 0 (with_lsn lsn (put_at at piece system.0)) (page_of-edited_same image 0 0 (λ page. with_lsn lsn (put_at at piece page)) system.0 system.1)
      ∙ ap (λ page. with_lsn lsn (put_at at piece page)) (sym (all_pages-is image 0 0 system.0 system.1))

  -- every other page stays
  pub others : (t n : ℕ) → (t ≡ 0 → n ≡ 0 → ⊥) → all_pages new t n ≡ all_pages image t n
  others t n apart = ap (λ (o : Option (List ℕ)). unwrap_or o []) (page_of-edited_other image 0 0 t n (λ page. with_lsn lsn (put_at at piece page)) apart)

  -- the dictionary and the position are those of the new page
  pub system_written : (list : List TableEntry) (position : ℕ) → dictionary (with_lsn lsn put) ≡ list → field position_at 8 put ≡ position → HasContents new (record (contents_of image) { dictionary = list; position = position })
  system_written list position told is = (
    formed_after lsn image write formed ((allowed, record { whole = system_long image formed; system = λ z first. formed.system; undo = λ z behind. absurd (behind refl); table = λ behind. absurd (behind refl) }), tt),
    same_contents (contents_of new) (record (contents_of image) { dictionary = list; position = position })
        (ap dictionary now ∙ told)
        (λ s. page_count-edited image 0 0 s (λ page. with_lsn lsn (put_at at piece page)))
        (slots_same image new (λ t p behind. others t p (λ z n. behind z)))
        (next_same image new (λ t p first. ap behind (others t p (λ z n. first z))))
        (λ s. ap (λ o. cond (nat_lt s 64) o None) (undo.own s (all_pages new 0) (all_pages image 0) (λ m from to. others 0 m (λ z n. omega (arith, n, from)))))
        (ap (field position_at 8) now ∙ field-stamped position_at 8 lsn put (omega arith) (omega arith) long ∙ is),
  )
