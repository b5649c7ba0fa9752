-- What records do to the pages of an image, one by one.
use Rattle.std.proofs.Common.{◌≡◌, ◌≢◌, ◌<◌, ◌≤◌, ◌-◌, ◌++◌, ◌==◌, ◌&&◌, ℕ, Bool, true, false, cond, if◌then◌else◌, List, [], ◌∷◌, length, replicate, get_or, refl, sym, ap, subst, ◌∙◌, arith, inl, inr, ◌⊎◌, Option, Some, None}
use Rattle.std.specs.Prelude.{slice_get, option_map, option_and_then, unwrap_or}
use Rattle.std.specs.List.{AllByRecursion}
use Rattle.std.specs.FinMap as finite
use Rattle.std.specs.FinMap.{get-remove}
use Rattle.std.specs.Cmp.{nat_cmp_total}
use Rattle.std.specs.Ordering.{nat_cmp, eq_by_cmp}
use Rattle.std.proofs.lemmas.Bool.{cases_lt, cases_eq}
use Rattle.std.proofs.lemmas.List.{length-set, length-append, length-replicate, get_or-replicate, get_or_append_left, get_or-append_right}
use Rattle.std.proofs.lemmas.Option.{same_Some, slice_get_within, slice_get-get_or, slice_get_past}
use Rattle.clone_page.specs.Header.{zero_page}
use Rattle.clone_page.proofs.Parts.{length-put_allowed, length-with_lsn, length-initialised}
use Rattle.clone_page.specs.Bytes.{put_at}
use Rattle.clone_mtr.specs.Effects.{effect}
use Rattle.clone_mtr.specs.declared.record.Record.{Record}
use Rattle.clone_mtr.specs.declared.record.Record.TheVariants.{Init, Write, Extend, Create, Drop}
use Rattle.clone_mtr.specs.Records.{IsRecord}
use Rattle.clone_undo.specs.Changes as undo
use Rattle.clone_undo.proofs.Edits.{edit-same, edit-other}
use Rattle.clone_image.specs.Image.{Image, page_of, with_pages, with_edit, edited, extended, after_record, after_records, EditsPages, all_pages, page_count, AreWholePages}
use Rattle.clone_base.proofs.MapEntries.{slice_get-set_same, slice_get-set_other}
use Rattle.clone_image.proofs.Images.{get-put_same, get-put_other, page_of-edited_same, page_of-edited_other}

abbrev pub Pages : Type 0
Pages = ℕ → ℕ → List ℕ

none_some : {A : Type 0} {x : List ℕ} → None ≡ Some x → A
none_some e = absurd (let f = e in cc)

-- One page is edited.

-- an edit of a page that isn't there
pub page_of-edited_absent : (image : Image) (space number : ℕ) (edit : List ℕ → List ℕ) → page_of image space number ≡ None → page_of (with_edit image space (edited number edit)) space number ≡ None
page_of-edited_absent image space number edit is = at (finite.get image space) refl
  where
    at : (o : Option (List (List ℕ))) → finite.get image space ≡ o → page_of (with_edit image space (edited number edit)) space number ≡ None
    at None none = ap (λ (o : Option (List (List ℕ))). page_of (with_pages image space (option_map (edited number edit) o)) space number) none ∙ is
    at (Some pages) some =
        let there : slice_get pages number ≡ None = sym (ap (option_and_then (λ ps. slice_get ps number)) some) ∙ is in
        ap (λ (o : Option (List (List ℕ))). page_of (with_pages image space (option_map (edited number edit) o)) space number) some
        ∙ ap (option_and_then (λ ps. slice_get ps number)) (get-put_same image space (edited number edit pages))
        ∙ past pages there (cases_lt number (length pages))
      where
        past : (pages : List (List ℕ)) → slice_get pages number ≡ None → (number < length pages) ⊎ (length pages ≤ number) → slice_get (edited number edit pages) number ≡ None
        past pages none (inl low) = none_some (sym none ∙ slice_get-get_or pages number [] low)
        past pages none (inr high) = slice_get_past (edited number edit pages) number (omega (arith, high, length-set pages number (edit (get_or pages number []))))

pub page_count-edited : (image : Image) (space number s : ℕ) (edit : List ℕ → List ℕ) → page_count (with_edit image space (edited number edit)) s ≡ page_count image s
page_count-edited image space number s edit = at (finite.get image space) refl (cases_eq s space)
  where
    at : (o : Option (List (List ℕ))) → finite.get image space ≡ o → (s ≡ space) ⊎ (s ≢ space) → page_count (with_edit image space (edited number edit)) s ≡ page_count image s
    at None none either = ap (λ (o : Option (List (List ℕ))). page_count (with_pages image space (option_map (edited number edit) o)) s) none
    at (Some pages) some (inr apart) =
        ap (λ (o : Option (List (List ℕ))). page_count (with_pages image space (option_map (edited number edit) o)) s) some ∙ ap (option_map length) (get-put_other image space s (edited number edit pages) apart)
    at (Some pages) some (inl same) =
        ap (λ (o : Option (List (List ℕ))). page_count (with_pages image space (option_map (edited number edit) o)) s) some
        ∙ ap (option_map length) (ap (finite.get (finite.insert image space (edited number edit pages))) same ∙ get-put_same image space (edited number edit pages))
        ∙ ap (λ n. Some n) (length-set pages number (edit (get_or pages number [])))
        ∙ sym (ap (option_map length) (ap (finite.get image) same ∙ some))

-- Records that change pages alone.

-- the bytes of a page that is there
pub all_pages-is : (image : Image) (s n : ℕ) (page : List ℕ) → page_of image s n ≡ Some page → all_pages image s n ≡ page
all_pages-is image s n page is = ap (λ o. unwrap_or o []) is

-- a page by itself
kept : (image : Image) (s n : ℕ) → page_of image s n ≡ option_map (λ _. all_pages image s n) (page_of image s n)
kept image s n = at (page_of image s n) refl
  where
    at : (o : Option (List ℕ)) → page_of image s n ≡ o → page_of image s n ≡ option_map (λ _. all_pages image s n) (page_of image s n)
    at None none = none ∙ sym (ap (option_map (λ _. all_pages image s n)) none)
    at (Some page) some = some ∙ ap (λ p. Some p) (sym (all_pages-is image s n page some)) ∙ sym (ap (option_map (λ _. all_pages image s n)) some)

-- an edit, page by page
edit_pages : (image : Image) (space number : ℕ) (edit : List ℕ → List ℕ) (s n : ℕ) → page_of (with_edit image space (edited number edit)) s n ≡ option_map (λ _. undo.pages_after_edit space number edit (all_pages image) s n) (page_of image s n)
edit_pages image space number edit s n = at (cases_eq s space) (cases_eq n number)
  where
    Goal : ℕ → ℕ → Type 0
    Goal t m = page_of (with_edit image space (edited number edit)) t m ≡ option_map (λ _. undo.pages_after_edit space number edit (all_pages image) t m) (page_of image t m)

    here : (o : Option (List ℕ)) → page_of image space number ≡ o → Goal space number
    here None none = page_of-edited_absent image space number edit none ∙ sym (ap (option_map (λ _. undo.pages_after_edit space number edit (all_pages image) space number)) none)
    here (Some page) some =
        page_of-edited_same image space number edit page some
        ∙ ap (λ p. Some p) (ap edit (sym (all_pages-is image space number page some)) ∙ sym (edit-same space number edit (all_pages image)))
        ∙ sym (ap (option_map (λ _. undo.pages_after_edit space number edit (all_pages image) space number)) some)

    there : (s ≡ space → n ≡ number → ⊥) → Goal s n
    there other =
        page_of-edited_other image space number s n edit other ∙ kept image s n
        ∙ ap (λ x. option_map (λ _. x) (page_of image s n)) (sym (edit-other space number s n edit (all_pages image) other))

    at : (s ≡ space) ⊎ (s ≢ space) → (n ≡ number) ⊎ (n ≢ number) → Goal s n
    at (inl first) (inl second) = let P : ℕ × ℕ → Type 0 = λ p. Goal p.0 p.1 in subst P (λ i. (sym first i, sym second i)) (here (page_of image space number) refl)
    at (inl first) (inr second) = there (λ e f. second f)
    at (inr first) second = there (λ e f. first e)

record_pages : (lsn : ℕ) (image : Image) (r : Record) (s n : ℕ) → EditsPages r → page_of (after_record lsn image r) s n ≡ option_map (λ _. undo.pages_after_record lsn r (all_pages image) s n) (page_of image s n)
record_pages lsn image (Init space number kind) s n only = edit_pages image space number (effect lsn (Init space number kind)) s n
record_pages lsn image (Write space number patch) s n only = edit_pages image space number (effect lsn (Write space number patch)) s n
record_pages lsn image (Extend space count) s n only = absurd only
record_pages lsn image (Create space count) s n only = absurd only
record_pages lsn image (Drop space) s n only = absurd only

-- what a record does to a page rests on that page alone
local_edit : (space number : ℕ) (edit : List ℕ → List ℕ) (p q : Pages) (s n : ℕ) → p s n ≡ q s n → undo.pages_after_edit space number edit p s n ≡ undo.pages_after_edit space number edit q s n
local_edit space number edit p q s n same = λ i. if (s == space) && (n == number) then edit (same i) else same i

local_record : (lsn : ℕ) (r : Record) (p q : Pages) (s n : ℕ) → p s n ≡ q s n → undo.pages_after_record lsn r p s n ≡ undo.pages_after_record lsn r q s n
local_record lsn (Init space number kind) p q s n same = local_edit space number (effect lsn (Init space number kind)) p q s n same
local_record lsn (Write space number patch) p q s n same = local_edit space number (effect lsn (Write space number patch)) p q s n same
local_record lsn (Extend space count) p q s n same = same
local_record lsn (Create space count) p q s n same = same
local_record lsn (Drop space) p q s n same = same

local : (lsn : ℕ) (rs : List Record) (p q : Pages) (s n : ℕ) → p s n ≡ q s n → undo.after lsn rs p s n ≡ undo.after lsn rs q s n
local lsn [] p q s n same = same
local lsn (r ∷ rs) p q s n same = local lsn rs (undo.pages_after_record lsn r p) (undo.pages_after_record lsn r q) s n (local_record lsn r p q s n same)

-- a record, and then the records behind it
followed : (lsn : ℕ) (image : Image) (r : Record) (rs : List Record) (s n : ℕ) → EditsPages r
    → page_of (after_records lsn (after_record lsn image r) rs) s n ≡ option_map (λ _. undo.after lsn rs (all_pages (after_record lsn image r)) s n) (page_of (after_record lsn image r) s n)
    → page_of (after_records lsn image (r ∷ rs)) s n ≡ option_map (λ _. undo.after lsn (r ∷ rs) (all_pages image) s n) (page_of image s n)
followed lsn image r rs s n edits rest = at (page_of image s n) refl
  where
    next : Image
    next = after_record lsn image r

    one : Option (List ℕ) → Option (List ℕ)
    one o = option_map (λ _. undo.pages_after_record lsn r (all_pages image) s n) o

    more : Option (List ℕ) → Option (List ℕ)
    more o = option_map (λ _. undo.after lsn rs (all_pages next) s n) o

    whole : Option (List ℕ) → Option (List ℕ)
    whole o = option_map (λ _. undo.after lsn rs (undo.pages_after_record lsn r (all_pages image)) s n) o

    at : (o : Option (List ℕ)) → page_of image s n ≡ o → page_of (after_records lsn next rs) s n ≡ whole (page_of image s n)
    at None none = rest ∙ ap more (record_pages lsn image r s n edits ∙ ap one none) ∙ sym (ap whole none)
    at (Some page) some =
        let there : page_of next s n ≡ Some (undo.pages_after_record lsn r (all_pages image) s n) = record_pages lsn image r s n edits ∙ ap one some in
        rest ∙ ap more there
        ∙ ap (λ p. Some p) (local lsn rs (all_pages next) (undo.pages_after_record lsn r (all_pages image)) s n (all_pages-is next s n (undo.pages_after_record lsn r (all_pages image) s n) there))
        ∙ sym (ap whole some)

pub records_pages : (lsn : ℕ) (image : Image) (rs : List Record) (s n : ℕ) → AllByRecursion EditsPages rs → page_of (after_records lsn image rs) s n ≡ option_map (λ _. undo.after lsn rs (all_pages image) s n) (page_of image s n)
records_pages lsn image [] s n each = kept image s n
records_pages lsn image (r ∷ rs) s n each = followed lsn image r rs s n each.0 (records_pages lsn (after_record lsn image r) rs s n each.1)

record_counts : (lsn : ℕ) (image : Image) (r : Record) (s : ℕ) → EditsPages r → page_count (after_record lsn image r) s ≡ page_count image s
record_counts lsn image (Init space number kind) s only = page_count-edited image space number s (effect lsn (Init space number kind))
record_counts lsn image (Write space number patch) s only = page_count-edited image space number s (effect lsn (Write space number patch))
record_counts lsn image (Extend space count) s only = absurd only
record_counts lsn image (Create space count) s only = absurd only
record_counts lsn image (Drop space) s only = absurd only

pub records_counts : (lsn : ℕ) (image : Image) (rs : List Record) (s : ℕ) → AllByRecursion EditsPages rs → page_count (after_records lsn image rs) s ≡ page_count image s
records_counts lsn image [] s each = refl
records_counts lsn image (r ∷ rs) s each = records_counts lsn (after_record lsn image r) rs s each.1 ∙ record_counts lsn image r s each.0

-- Pages stay whole.

pub length-effect : (lsn : ℕ) (r : Record) (page : List ℕ) → IsRecord r → length page ≡ 4096 → length (effect lsn r page) ≡ 4096
length-effect lsn (Init space number kind) page is long = length-initialised space number kind lsn
length-effect lsn (Write space number patch) page is long = length-with_lsn lsn (put_at patch.offset patch.bytes page) (length-put_allowed patch.offset patch.bytes page is.2 long)
length-effect lsn (Extend space count) page is long = long
length-effect lsn (Create space count) page is long = long
length-effect lsn (Drop space) page is long = long

-- every page of a space is whole
abbrev pub AreWholeIn : List (List ℕ) → Type 0
AreWholeIn pages = (n : ℕ) (page : List ℕ) → slice_get pages n ≡ Some page → length page ≡ 4096

-- an image with other pages of one space
whole_put : (image : Image) (space : ℕ) (pages : List (List ℕ)) → AreWholePages image → AreWholeIn pages → AreWholePages (finite.insert image space pages)
whole_put image space pages whole own = λ s n page is.
    elim (cases_eq s space) [
      | inl same ↦ own n page (sym (ap (option_and_then (λ ps. slice_get ps n)) (ap (finite.get (finite.insert image space pages)) same ∙ get-put_same image space pages)) ∙ is)
      | inr apart ↦ whole s n page (sym (ap (option_and_then (λ ps. slice_get ps n)) (get-put_other image space s pages apart)) ∙ is)
    ]

pub whole_edit : (image : Image) (space : ℕ) (edit : List (List ℕ) → List (List ℕ)) → AreWholePages image → ((pages : List (List ℕ)) → AreWholeIn pages → AreWholeIn (edit pages)) → AreWholePages (with_edit image space edit)
whole_edit image space edit whole stays = at (finite.get image space) refl
  where
    at : (o : Option (List (List ℕ))) → finite.get image space ≡ o → AreWholePages (with_pages image space (option_map edit (finite.get image space)))
    at None none = subst (λ (o : Option (List (List ℕ))). AreWholePages (with_pages image space (option_map edit o))) (sym none) whole
    at (Some pages) some =
        subst (λ (o : Option (List (List ℕ))). AreWholePages (with_pages image space (option_map edit o))) (sym some)
        (whole_put image space (edit pages) whole (stays pages (λ n page is. whole space n page (ap (option_and_then (λ ps. slice_get ps n)) some ∙ is))))

whole_zeros : (count : ℕ) → AreWholeIn (replicate count zero_page)
whole_zeros count n page is =
    let low = slice_get_within (replicate count zero_page) n page is in
    ap length (same_Some _ _ (sym is ∙ slice_get-get_or (replicate count zero_page) n zero_page low) ∙ get_or-replicate count n zero_page zero_page (omega (arith, low, length-replicate count zero_page))) ∙ length-replicate 4096 (let z : ℕ = 0 in z)

whole_edited : (number : ℕ) (edit : List ℕ → List ℕ) → ((page : List ℕ) → length page ≡ 4096 → length (edit page) ≡ 4096) → (pages : List (List ℕ)) → AreWholeIn pages → AreWholeIn (edited number edit pages)
whole_edited number edit stays pages whole n page is =
    let new : List ℕ = edit (get_or pages number []) in
    let low = slice_get_within (edited number edit pages) n page is in
    let was : n < length pages = omega (arith, low, length-set pages number new) in
    elim (cases_eq n number) [
      | inl same ↦
          let there : number < length pages = omega (arith, was, same) in
          ap length (same_Some _ _ (sym is ∙ ap (slice_get (edited number edit pages)) same ∙ slice_get-set_same pages number new there)) ∙ stays (get_or pages number []) (whole number (get_or pages number []) (slice_get-get_or pages number [] there))
      | inr other ↦ whole n page (sym (slice_get-set_other pages number n new other) ∙ is)
    ]

whole_extended : (count : ℕ) (pages : List (List ℕ)) → AreWholeIn pages → AreWholeIn (extended count pages)
whole_extended count pages whole n page is = at (cases_lt n (length pages))
  where
    more : List (List ℕ)
    more = replicate (count - length pages) zero_page

    low : n < length (extended count pages)
    low = slice_get_within (extended count pages) n page is

    page_is : page ≡ get_or (pages ++ more) n []
    page_is = same_Some _ _ (sym is ∙ slice_get-get_or (extended count pages) n [] low)

    at : (n < length pages) ⊎ (length pages ≤ n) → length page ≡ 4096
    at (inl old) = ap length (page_is ∙ get_or_append_left pages more [] n old) ∙ whole n (get_or pages n []) (slice_get-get_or pages n [] old)
    at (inr new) =
        let within : n - length pages < count - length pages = omega (arith, low, new, length-append pages more, length-replicate (count - length pages) zero_page) in
        ap length (page_is ∙ get_or-append_right pages more (length pages) n [] refl new ∙ get_or-replicate (count - length pages) (n - length pages) zero_page [] within) ∙ length-replicate 4096 (let z : ℕ = 0 in z)

whole_removed : (image : Image) (space : ℕ) → AreWholePages image → AreWholePages (finite.remove image space)
whole_removed image space whole = λ s n page is. at s n page (eq_by_cmp nat_cmp s space) refl is
  where
    at : (s n : ℕ) (page : List ℕ) (b : Bool) → eq_by_cmp nat_cmp s space ≡ b → page_of (finite.remove image space) s n ≡ Some page → length page ≡ 4096
    at s n page true gone is = none_some (sym (ap (option_and_then (λ ps. slice_get ps n)) (get-remove nat_cmp_total image space s ∙ ap (λ (b : Bool). cond b None (finite.get image s)) gone)) ∙ is)
    at s n page false stays is = whole s n page (sym (ap (option_and_then (λ ps. slice_get ps n)) (get-remove nat_cmp_total image space s ∙ ap (λ (b : Bool). cond b None (finite.get image s)) stays)) ∙ is)

record_whole : (lsn : ℕ) (image : Image) (r : Record) → IsRecord r → AreWholePages image → AreWholePages (after_record lsn image r)
record_whole lsn image (Init space number kind) is whole = whole_edit image space (edited number (effect lsn (Init space number kind))) whole (whole_edited number (effect lsn (Init space number kind)) (λ page long. length-effect lsn (Init space number kind) page is long))
record_whole lsn image (Write space number patch) is whole = whole_edit image space (edited number (effect lsn (Write space number patch))) whole (whole_edited number (effect lsn (Write space number patch)) (λ page long. length-effect lsn (Write space number patch) page is long))
record_whole lsn image (Extend space count) is whole = whole_edit image space (extended count) whole (whole_extended count)
record_whole lsn image (Create space count) is whole = whole_put image space (replicate count zero_page) whole (whole_zeros count)
record_whole lsn image (Drop space) is whole = whole_removed image space whole

pub records_whole : (lsn : ℕ) (image : Image) (rs : List Record) → AllByRecursion IsRecord rs → AreWholePages image → AreWholePages (after_records lsn image rs)
records_whole lsn image [] each whole = whole
records_whole lsn image (r ∷ rs) each whole = records_whole lsn (after_record lsn image r) rs each.1 (record_whole lsn image r each.0 whole)
