-- An image told by its pages, and what records that edit pages leave of them.
use Rattle.std.proofs.Common.{◌≡◌, ◌<◌, ℕ, List, [], length, get_or, refl, sym, ap, ◌∙◌, arith, Option, Some, None, slice_get, option_map, option_and_then}
use Rattle.clone_contents.proofs.Common.{AllByRecursion, same_Some, slice_get_within, slice_get-get_or, Record, undo_slot, after, AreWhole, Image, page_of, page_count, all_pages, after_records, EditsPages, AreWholePages, undo_slot_of, records_pages, all_pages-is}
use Rattle.std.specs.FinMap as finite
use Rattle.clone_undo.proofs.Effects.{own}

-- Pages after records.

-- a page that is there
pub page_after : (lsn : ℕ) (image : Image) (rs : List Record) (s n : ℕ) (page : List ℕ) → AllByRecursion EditsPages rs → page_of image s n ≡ Some page → page_of (after_records lsn image rs) s n ≡ Some (after lsn rs (all_pages image) s n)
page_after lsn image rs s n page edits there = records_pages lsn image rs s n edits ∙ ap (option_map (λ _. after lsn rs (all_pages image) s n)) there

-- a page that the records leave as it is
pub page_kept : (lsn : ℕ) (image : Image) (rs : List Record) (s n : ℕ) → AllByRecursion EditsPages rs → after lsn rs (all_pages image) s n ≡ all_pages image s n → page_of (after_records lsn image rs) s n ≡ page_of image s n
page_kept lsn image rs s n edits same = at (page_of image s n) refl
  where
    at : (o : Option (List ℕ)) → page_of image s n ≡ o → page_of (after_records lsn image rs) s n ≡ page_of image s n
    at None none = records_pages lsn image rs s n edits ∙ ap (option_map (λ _. after lsn rs (all_pages image) s n)) none ∙ sym none
    at (Some page) some = page_after lsn image rs s n page edits some ∙ ap (λ p. Some p) (same ∙ all_pages-is image s n page some) ∙ sym some

-- the bytes of a page that is there
pub all_after : (lsn : ℕ) (image : Image) (rs : List Record) (s n : ℕ) (page : List ℕ) → AllByRecursion EditsPages rs → page_of image s n ≡ Some page → all_pages (after_records lsn image rs) s n ≡ after lsn rs (all_pages image) s n
all_after lsn image rs s n page edits there = all_pages-is (after_records lsn image rs) s n (after lsn rs (all_pages image) s n) (page_after lsn image rs s n page edits there)

-- a page that is there after records that edit pages was there
pub page_before : (lsn : ℕ) (image : Image) (rs : List Record) (s n : ℕ) (page : List ℕ) → AllByRecursion EditsPages rs → page_of (after_records lsn image rs) s n ≡ Some page → (old : List ℕ) × (page_of image s n ≡ Some old) × (page ≡ after lsn rs (all_pages image) s n)
page_before lsn image rs s n page edits there = at (page_of image s n) refl
  where
    new : List ℕ
    new = after lsn rs (all_pages image) s n

    at : (o : Option (List ℕ)) → page_of image s n ≡ o → (old : List ℕ) × (page_of image s n ≡ Some old) × (page ≡ after lsn rs (all_pages image) s n)
    at None none = absurd (let e = sym there ∙ records_pages lsn image rs s n edits ∙ ap (option_map (λ _. new)) none in cc)
    at (Some old) some = (old, some, same_Some page new (sym there ∙ page_after lsn image rs s n old edits some))

-- a page within its space is there
pub there : (image : Image) (s n count : ℕ) → page_count image s ≡ Some count → n < count → (page : List ℕ) × (page_of image s n ≡ Some page)
there image s n count is within = at (finite.get image s) refl
  where
    at : (o : Option (List (List ℕ))) → finite.get image s ≡ o → (page : List ℕ) × (page_of image s n ≡ Some page)
    at None none = absurd (let e = sym is ∙ ap (option_map length) none in cc)
    at (Some pages) some =
        let long : length pages ≡ count = same_Some (length pages) count (sym (ap (option_map length) some) ∙ is) in
        (get_or pages n [], ap (λ o. option_and_then (λ ps. slice_get ps n) o) some ∙ slice_get-get_or pages n [] (omega (arith, within, long)))

-- a page that is there is within its space
pub within_space : (image : Image) (s n count : ℕ) (page : List ℕ) → page_count image s ≡ Some count → page_of image s n ≡ Some page → n < count
within_space image s n count page = space (finite.get image s)
  where
    space : (o : Option (List (List ℕ))) → option_map length o ≡ Some count → option_and_then (λ pages. slice_get pages n) o ≡ Some page → n < count
    space None size is = absurd (let f = is in cc)
    space (Some pages) size is = omega (arith, same_Some (length pages) count size, slice_get_within pages n page is)

-- The undo slots of an image with the pages of all of them.

pub slot_after : (lsn : ℕ) (image : Image) (rs : List Record) (s : ℕ) → AllByRecursion EditsPages rs → page_count image 0 ≡ Some 257 → s < 64 → undo_slot_of (after_records lsn image rs) s ≡ undo_slot s (after lsn rs (all_pages image) 0)
slot_after lsn image rs s edits size small =
    own s (all_pages (after_records lsn image rs) 0) (after lsn rs (all_pages image) 0)
    (λ m low high. let found = there image 0 m 257 size (omega (arith, high, small)) in all_after lsn image rs 0 m found.0 edits found.1)

pub whole_slot : (image : Image) (s : ℕ) → AreWholePages image → page_count image 0 ≡ Some 257 → s < 64 → AreWhole s (all_pages image 0)
whole_slot image s whole size small = λ m low high.
    let found = there image 0 m 257 size (omega (arith, high, small)) in
    ap length (all_pages-is image 0 m found.0 found.1) ∙ whole 0 m found.0 found.1
