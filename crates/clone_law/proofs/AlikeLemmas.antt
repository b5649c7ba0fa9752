-- Recovery makes the same rows of images that are alike.
use Rattle.std.proofs.Common.{◌≡◌, ◌≤◌, ℕ, zero, suc, List, [], ◌∷◌, replicate, refl, sym, ap, subst, ◌∙◌, arith, inl, inr, ◌⊎◌, Option, Some, None, IsSomeAnd}
use Rattle.std.specs.List.{AllByRecursion}
use Rattle.std.specs.Prelude.{unwrap_or, option_and_then, slice_get}
use Rattle.std.specs.FinMap as finite
use Rattle.std.proofs.lemmas.Bool.{cases_eq}
use Rattle.clone_model.specs.History.{Row, Rows}
use Rattle.clone_page.specs.Bytes.{put_at}
use Rattle.clone_page.specs.Header.{zero_page, kind_of}
use Rattle.clone_page.specs.Dictionary.{Lists}
use Rattle.clone_page.specs.Slots.{slot_at}
use Rattle.clone_undo.specs.Entries.{UndoEntry}
use Rattle.clone_undo.specs.Places.{undo_slot_count, header_page, header_offset}
use Rattle.clone_undo.specs.Slots.{UndoSlot, undo_slot}
use Rattle.clone_undo.specs.Changes.{slot_before}
use Rattle.clone_image.specs.Image.{Image, page_of, with_edit, edited}
use Rattle.clone_image.specs.Redone.{Standing, no_space, past_end, stands, standing_at, standing_in, standing_of}
use Rattle.clone_image.specs.Recovered.{system_pages, undo_slot_of, all_undone, taken_back, taken_back_below, recovered}
use Rattle.clone_image.specs.Rows.{HoldsSlots, HoldsRow, HasRows}
use Rattle.clone_image.proofs.Images.{page_of-edited_same, page_of-edited_other}
use Rattle.clone_image.specs.Redone.{redone_from}
use Rattle.clone_image.specs.Replay.{replayed}
use Rattle.clone_image.proofs.RedoLemmas.{replayed_is_redone}
use Rattle.clone_mtr.specs.declared.record.Record.{Record}
use Rattle.clone_law.specs.Laws.{IsLaid}
use Rattle.clone_law.specs.Touches.{Lax}
use Rattle.clone_law.specs.Alike.{LaxPage, Alike, IsThere, AreThere, CanTakeBack}

-- from how the pages stand

page_at : Standing → Option (List ℕ)
page_at no_space = None
page_at past_end = None
page_at (stands page) = Some page

page_is : (image : Image) (s n : ℕ) → page_of image s n ≡ page_at (standing_of image s n)
unfolding page_at
page_is image s n = at (finite.get image s)
  where
    inside : (o : Option (List ℕ)) → o ≡ page_at (standing_at o)
    inside None = refl
    inside (Some page) = refl

    at : (o : Option (List (List ℕ))) → option_and_then (λ pages. slice_get pages n) o ≡ page_at (standing_in o n)
    at None = refl
    at (Some pages) = inside (slice_get pages n)

lax_at : (u v : Standing) → Lax u v → LaxPage (page_at u) (page_at v)
unfolding page_at
lax_at no_space no_space lax = tt
lax_at past_end no_space lax = tt
lax_at (stands page) no_space lax = lax
lax_at no_space past_end lax = absurd lax
lax_at past_end past_end lax = tt
lax_at (stands page) past_end lax = lax
lax_at u (stands page) lax = ap page_at lax

page_lax : (copy image : Image) → ((s n : ℕ) → Lax (standing_of copy s n) (standing_of image s n)) → (s n : ℕ) → LaxPage (page_of copy s n) (page_of image s n)
page_lax copy image each s n =
    subst (λ (o : Option (List ℕ)). LaxPage o (page_of image s n)) (sym (page_is copy s n)) (subst (λ (o : Option (List ℕ)). LaxPage (page_at (standing_of copy s n)) o) (sym (page_is image s n)) (lax_at _ _ (each s n)))

pub alike_from : (copy image : Image) → ((n : ℕ) → page_of copy 0 n ≡ page_of image 0 n) → ((s n : ℕ) → Lax (standing_of copy s n) (standing_of image s n)) → Alike copy image
alike_from copy image system each = record { system = system; pages = page_lax copy image each }

-- an edit of a page that is there

lax_some : (o p : Option (List ℕ)) (page : List ℕ) → p ≡ Some page → LaxPage o p → o ≡ Some page
lax_some o p page is lax = subst (λ (x : Option (List ℕ)). LaxPage o x) is lax

same_page : (s n space number : ℕ) → ((s ≡ space) × (n ≡ number)) ⊎ (s ≡ space → n ≡ number → ⊥)
same_page s n space number =
    elim (cases_eq s space) [
      | inl s_same ↦ elim (cases_eq n number) [ inl n_same ↦ inl (s_same, n_same) | inr n_other ↦ inr (λ a b. n_other b) ]
      | inr s_other ↦ inr (λ a b. s_other a)
    ]

edit_alike : (copy image : Image) (space number : ℕ) (edit : List ℕ → List ℕ) → IsThere image space number → Alike copy image → Alike (with_edit copy space (edited number edit)) (with_edit image space (edited number edit))
edit_alike copy image space number edit there alike = record { system = λ n. system n (same_page 0 n space number); pages = λ s n. pages s n (same_page s n space number) }
  where
    own : page_of copy space number ≡ Some there.0
    own = lax_some _ _ there.0 there.1 (alike.pages space number)

    here : page_of (with_edit copy space (edited number edit)) space number ≡ page_of (with_edit image space (edited number edit)) space number
    here = page_of-edited_same copy space number edit there.0 own ∙ sym (page_of-edited_same image space number edit there.0 there.1)

    moved : (s n : ℕ) (i : Image) → (s ≡ space) × (n ≡ number) → page_of i s n ≡ page_of i space number
    moved s n i e = ap (λ x. page_of i x n) e.0 ∙ ap (λ x. page_of i space x) e.1

    system : (n : ℕ) → ((0 ≡ space) × (n ≡ number)) ⊎ (0 ≡ space → n ≡ number → ⊥) → page_of (with_edit copy space (edited number edit)) 0 n ≡ page_of (with_edit image space (edited number edit)) 0 n
    system n (inl e) = moved 0 n (with_edit copy space (edited number edit)) e ∙ here ∙ sym (moved 0 n (with_edit image space (edited number edit)) e)
    system n (inr other) = page_of-edited_other copy space number 0 n edit other ∙ alike.system n ∙ sym (page_of-edited_other image space number 0 n edit other)

    lax_same : (o p : Option (List ℕ)) (page : List ℕ) → p ≡ Some page → o ≡ p → LaxPage o p
    lax_same o p page is same = subst (λ (x : Option (List ℕ)). LaxPage o x) (sym is) (same ∙ is)

    pages : (s n : ℕ) → ((s ≡ space) × (n ≡ number)) ⊎ (s ≡ space → n ≡ number → ⊥) → LaxPage (page_of (with_edit copy space (edited number edit)) s n) (page_of (with_edit image space (edited number edit)) s n)
    pages s n (inl e) =
        lax_same (page_of (with_edit copy space (edited number edit)) s n) (page_of (with_edit image space (edited number edit)) s n) (edit there.0) (moved s n (with_edit image space (edited number edit)) e ∙ page_of-edited_same image space number edit there.0 there.1) (moved s n (with_edit copy space (edited number edit)) e ∙ here ∙ sym (moved s n (with_edit image space (edited number edit)) e))
    pages s n (inr other) =
        subst (λ (o : Option (List ℕ)). LaxPage o (page_of (with_edit image space (edited number edit)) s n)) (sym (page_of-edited_other copy space number s n edit other))
        (subst (λ (o : Option (List ℕ)). LaxPage (page_of copy s n) o) (sym (page_of-edited_other image space number s n edit other)) (alike.pages s n))

still_there : (image : Image) (space number s n : ℕ) (edit : List ℕ → List ℕ) → IsThere image space number → IsThere image s n → IsThere (with_edit image space (edited number edit)) s n
still_there image space number s n edit there is =
    elim (same_page s n space number) [
      | inl e ↦ (edit there.0, ap (λ x. page_of (with_edit image space (edited number edit)) x n) e.0 ∙ ap (λ x. page_of (with_edit image space (edited number edit)) space x) e.1 ∙ page_of-edited_same image space number edit there.0 there.1)
      | inr other ↦ (is.0, page_of-edited_other image space number s n edit other ∙ is.1)
    ]

all_still : (image : Image) (es : List UndoEntry) (s n : ℕ) → AllByRecursion (λ e. IsThere image e.table e.page) es → IsThere image s n → IsThere (all_undone image es) s n
all_still image [] s n each is = is
all_still image (e ∷ es) s n each is =
    still_there (all_undone image es) e.table e.page s n (put_at (slot_at e.slot) (slot_before e)) (all_still image es e.table e.page each.1 each.0) (all_still image es s n each.1 is)

undone_alike : (copy image : Image) (es : List UndoEntry) → AllByRecursion (λ e. IsThere image e.table e.page) es → Alike copy image → Alike (all_undone copy es) (all_undone image es)
undone_alike copy image [] each alike = alike
undone_alike copy image (e ∷ es) each alike =
    edit_alike (all_undone copy es) (all_undone image es) e.table e.page (put_at (slot_at e.slot) (slot_before e)) (all_still image es e.table e.page each.1 each.0) (undone_alike copy image es each.1 alike)

slot_alike : (copy image : Image) (s : ℕ) (slot : Option UndoSlot) → AreThere image s slot → Alike copy image → Alike (taken_back copy s slot) (taken_back image s slot)
slot_alike copy image s None there alike = alike
slot_alike copy image s (Some slot) there alike =
    edit_alike (all_undone copy slot.records) (all_undone image slot.records) 0 (header_page s) (put_at header_offset (replicate 16 0)) (all_still image slot.records 0 (header_page s) there.1 there.0) (undone_alike copy image slot.records there.1 alike)

same_slot : (copy image : Image) (s : ℕ) → Alike copy image → undo_slot_of copy s ≡ undo_slot_of image s
same_slot copy image s alike =
    let same : system_pages copy ≡ system_pages image = λ i n. unwrap_or (alike.system n i) [] in
    ap (undo_slot s) same

below_alike : (copy image : Image) (count : ℕ) → count ≤ undo_slot_count → CanTakeBack image → Alike copy image → Alike (taken_back_below count copy) (taken_back_below count image)
unfolding taken_back_below
below_alike copy image zero le can alike = alike
below_alike copy image (suc s) le can alike =
    let before = below_alike copy image s (omega arith) can alike in
    let c : Image = taken_back_below s copy in
    let i : Image = taken_back_below s image in
    subst (λ (slot : Option UndoSlot). Alike (taken_back c s slot) (taken_back i s (undo_slot_of i s))) (sym (same_slot c i s before)) (slot_alike c i s (undo_slot_of i s) (can s (omega arith)) before)

pub recovered_alike : (copy image : Image) → CanTakeBack image → Alike copy image → Alike (recovered copy) (recovered image)
unfolding recovered
recovered_alike copy image can alike = below_alike copy image undo_slot_count (omega arith) can alike

-- The rows are the same.

no_rows : (page : List ℕ) → page ≡ zero_page → HoldsSlots page → ⊥
no_rows page is (inl three) = omega (arith, ap kind_of is, three)
no_rows page is (inr four) = omega (arith, ap kind_of is, four)

own_page : (o p : Option (List ℕ)) (page : List ℕ) → LaxPage o p → o ≡ Some page → HoldsSlots page → p ≡ Some page
own_page None None page lax is holds = let e : None ≡ Some page = is in cc
own_page (Some x) None page lax is holds = let e : x ≡ page = cc in absurd (no_rows page (sym e ∙ lax) holds)
own_page o (Some x) page lax is holds = sym lax ∙ is

there : (copy image : Image) (row : Row) → Alike copy image → HoldsRow (page_of copy) row → HoldsRow (page_of image) row
there copy image row alike is = record {
  listed = subst (λ (o : Option (List ℕ)). IsSomeAnd o (λ page. Lists page row.0)) (alike.system 0) is.listed;
  number = is.number;
  page = is.page;
  found = own_page _ _ is.page (alike.pages row.0 is.number) is.found is.holds;
  holds = is.holds;
  slot_number = is.slot_number;
  within = is.within;
  held = is.held;
}

here : (copy image : Image) (row : Row) → Alike copy image → HoldsRow (page_of image) row → HoldsRow (page_of copy) row
here copy image row alike is = record {
  listed = subst (λ (o : Option (List ℕ)). IsSomeAnd o (λ page. Lists page row.0)) (sym (alike.system 0)) is.listed;
  number = is.number;
  page = is.page;
  found = lax_some _ _ is.page is.found (alike.pages row.0 is.number);
  holds = is.holds;
  slot_number = is.slot_number;
  within = is.within;
  held = is.held;
}

pub rows_alike : (copy image : Image) (rows : Rows) → Alike copy image → HasRows (page_of image) rows → HasRows (page_of copy) rows
rows_alike copy image rows alike has = record {
  here = λ table key value is. has.here table key value (there copy image (table, key, value) alike is);
  there = λ table key value got. here copy image (table, key, value) alike (has.there table key value got);
}

-- A COPY WHOSE PAGES ARE THOSE OF AN IMAGE RECOVERS TO THE ROWS OF THAT IMAGE
pub recovered_rows : (copy image : Image) (rows : Rows) → ((n : ℕ) → page_of copy 0 n ≡ page_of image 0 n) → ((s n : ℕ) → Lax (standing_of copy s n) (standing_of image s n)) → CanTakeBack image → HasRows (page_of (recovered image)) rows
    → HasRows (page_of (recovered copy)) rows
recovered_rows copy image rows system each can has = rows_alike (recovered copy) (recovered image) rows (recovered_alike copy image can (alike_from copy image system each)) has

-- the system space of a copy that has no pages behind it
same_system : (copy image : Image) → ((s n : ℕ) → Lax (standing_of copy s n) (standing_of image s n)) → ((n : ℕ) → page_of image 0 n ≡ None → page_of copy 0 n ≡ None) → (n : ℕ) → page_of copy 0 n ≡ page_of image 0 n
same_system copy image each bare n = at (page_of image 0 n) refl (page_lax copy image each 0 n)
  where
    at : (o : Option (List ℕ)) → page_of image 0 n ≡ o → LaxPage (page_of copy 0 n) (page_of image 0 n) → page_of copy 0 n ≡ page_of image 0 n
    at None is lax = bare n is ∙ sym is
    at (Some page) is lax = lax_some (page_of copy 0 n) (page_of image 0 n) page is lax ∙ sym is

-- A COPY RECOVERS TO THE ROWS OF THE DONOR AT THE STOP
pub copy_recovers : (base : ℕ) (log : List (List Record)) (copy : Image) (rows : Rows) → IsLaid base log copy → CanTakeBack (replayed log) → HasRows (page_of (recovered (replayed log))) rows → HasRows (page_of (recovered copy)) rows
copy_recovers base log copy rows laid can has =
    let each : (s n : ℕ) → Lax (standing_of copy s n) (standing_of (replayed log) s n) =
    λ s n. subst (λ (v : Standing). Lax v (standing_of (replayed log) s n)) (sym (laid.pages s n)) (subst (λ (v : Standing). Lax (redone_from base s n (laid.start s n) laid.rest) v) (sym (replayed_is_redone log s n laid.small)) (laid.gives s n laid.front laid.rest laid.split laid.moment)) in
    recovered_rows copy (replayed log) rows (same_system copy (replayed log) each laid.system) each can has
