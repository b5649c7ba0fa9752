-- The undo slots are taken back one after the other, and those to come stay as they were.
use Rattle.std.proofs.Common.{◌≡◌, ℕ, Bool, true, cond, zero, suc, ◌<◌, ◌≤◌, List, [], replicate, refl, sym, ap, subst, ◌∙◌, arith, inl, inr, ◌⊎◌, None, Some}
use Rattle.std.specs.Prelude.{unwrap_or, IfSome}
use Rattle.std.specs.declared.option.Option.{Option}
use Rattle.std.proofs.lemmas.Bool.{cases_lt}
use Rattle.clone_page.specs.Bytes.{put_at}
use Rattle.clone_undo.specs.Places.{undo_slot_count, header_page, header_offset}
use Rattle.clone_undo.specs.Slots.{UndoSlot, is_in_use, count_of}
use Rattle.clone_undo.specs.declared.reading.SlotHeader.{SlotHeader}
use Rattle.clone_undo.proofs.Effects.{own}
use Rattle.clone_undo.proofs.Headers.{slot_of}
use Rattle.clone_image.specs.Image.{Image, page_of}
use Rattle.clone_image.specs.Recovered.{system_pages, undo_slot_of, all_undone, freed, taken_back, taken_back_below, recovered}
use Rattle.clone_image.proofs.Images.{page_of-edited_other}
use Rattle.clone_recover.specs.Undoing.{HasChanges, IsSlotInRange, InRange}
use Rattle.clone_recover.proofs.UndoChanges.{all_undone_system}

freed_system : (image : Image) (s m : ℕ) → (m ≡ header_page s → ⊥) → system_pages (freed image s) m ≡ system_pages image m
freed_system image s m other = ap (λ o. unwrap_or o []) (page_of-edited_other image 0 (header_page s) 0 m (put_at header_offset (replicate 16 0)) (λ t n. other n))

-- a slot that is taken back leaves the later ones
kept_slot : (image : Image) (s t : ℕ) (slot : Option UndoSlot) → s < t → IsSlotInRange slot → undo_slot_of (taken_back image s slot) t ≡ undo_slot_of image t
kept_slot image s t None lt each = refl
kept_slot image s t (Some u) lt each =
    own t (system_pages (freed (all_undone image u.records) s)) (system_pages image)
    (λ m low high. freed_system (all_undone image u.records) s m (λ e. omega (arith, e, low, lt)) ∙ all_undone_system image u.records m each)

later_slot : (s t : ℕ) (start : Image) → s ≤ t → InRange s start → undo_slot_of (taken_back_below s start) t ≡ undo_slot_of start t
unfolding taken_back_below
later_slot zero t start le each = refl
later_slot (suc s) t start le each =
    let before : InRange s start = λ i lt. each i (omega (arith, lt)) in
    let own_slot = later_slot s s start (omega arith) before in
    kept_slot (taken_back_below s start) s t (undo_slot_of (taken_back_below s start) s) (omega (arith, le)) (subst IsSlotInRange (sym own_slot) (each s (omega arith)))
    ∙ later_slot s t start (omega (arith, le)) before

-- the slots below a number were taken back
pub record TakingBack (s : ℕ) (start image : Image) : Type 0 where
  pub made : image ≡ taken_back_below s start
  pub ranges : InRange s start

pub taking_begins : (start image : Image) → image ≡ start → TakingBack 0 start image
unfolding taken_back_below
taking_begins start image same = record { made = same; ranges = λ i lt. absurd (omega (arith, lt)) }

same_slot : (s : ℕ) (start image : Image) → TakingBack s start image → undo_slot_of image s ≡ undo_slot_of start s
same_slot s start image t = ap (λ i. undo_slot_of i s) t.made ∙ later_slot s s start (omega arith) t.ranges

pub taking_goes_on : (s next : ℕ) (start image new : Image) → next ≡ suc s → new ≡ taken_back image s (undo_slot_of image s) → IsSlotInRange (undo_slot_of image s) → TakingBack s start image → TakingBack next start new
unfolding taken_back_below
taking_goes_on s next start image new more is range t = subst (λ n. TakingBack n start new) (sym more) record {
  made = is ∙ ap (λ (i : Image). taken_back i s (undo_slot_of i s)) t.made;
  ranges = λ i lt. at i lt (cases_lt i s);
}
  where
    at : (i : ℕ) → i < suc s → (i < s) ⊎ (s ≤ i) → IsSlotInRange (undo_slot_of start i)
    at i lt (inl low) = t.ranges i low
    at i lt (inr high) = let e : s ≡ i = omega (arith, lt, high) in subst (λ k. IsSlotInRange (undo_slot_of start k)) e (subst IsSlotInRange (same_slot s start image t) range)

-- at the end all of them were taken back
pub taking_ends : (s : ℕ) (start image : Image) → s ≡ undo_slot_count → TakingBack s start image → (image ≡ recovered start) × InRange undo_slot_count start
unfolding recovered
taking_ends s start image all t =
    (t.made ∙ ap (λ n. taken_back_below n start) all, subst (λ n. InRange n start) all t.ranges)

-- what a header that is in use says of its slot
header_has : (image : Image) (s : ℕ) → is_in_use (system_pages image (header_page s)) ≡ true → HasChanges (count_of (system_pages image (header_page s))) s image
header_has image s used =
    let there : undo_slot_of image s ≡ Some (slot_of s (system_pages image)) = ap (λ (b : Bool). cond b (Some (slot_of s (system_pages image))) None) used in
    record { slot = slot_of s (system_pages image); is = there; records = refl }

pub has_changes : (image : Image) (s : ℕ) (page : List ℕ) (r : Option SlotHeader) → page_of image 0 (header_page s) ≡ Some page → IfSome r (λ h. is_in_use page ≡ true) → IfSome r (λ h. h.count ≡ count_of page) → IfSome r (λ h. HasChanges h.count s image)
has_changes image s page None there used count = tt
has_changes image s page (Some h) there used count =
    let is : page ≡ system_pages image (header_page s) = sym (ap (λ o. unwrap_or o []) there) in
    subst (λ (n : ℕ). HasChanges n s image) (sym (count ∙ ap count_of is)) (header_has image s (sym (ap is_in_use is) ∙ used))
