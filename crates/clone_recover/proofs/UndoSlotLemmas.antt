-- An undo slot is taken back and freed, over a disk.
use Rattle.std.proofs.Common.{◌≡◌, ◌<◌, ◌≤◌, ℕ, List, refl, sym, ap, subst, ◌∙◌, Some, None, inl, inr}
use Rattle.std.specs.declared.option.Option.{Option}
use Rattle.std.specs.List.{AllByRecursion}
use Rattle.clone_outside.specs.Disk.{DiskImage}
use Rattle.clone_undo.specs.Entries.{UndoEntry, IsEntry}
use Rattle.clone_undo.specs.Places.{undo_slot_count, capacity, header_page}
use Rattle.clone_undo.specs.Slots.{UndoSlot, entries}
use Rattle.clone_undo.specs.declared.reading.SlotHeader.{SlotHeader}
use Rattle.clone_undo.proofs.Headers.{in_use, slot-tells}
use Rattle.clone_image.specs.Image.{Image}
use Rattle.clone_image.specs.Recovered.{system_pages, undo_slot_of, all_undone, taken_back, freed}
use Rattle.clone_overlay.specs.Covers.{Overlay}
use Rattle.clone_overlay.specs.Images.{image_of}
use Rattle.clone_overlay.specs.Shown.{Shows, ShowsSame}
use Rattle.clone_recover.specs.Undoing.{HasChanges, IsSlotInRange}
use Rattle.clone_recover.specs.Damage.{ForImage, ShowsEdited, HeaderOn, PageOrOn, IsPageOr, IsUnsoundBelow, IsUnsound, IsBroken}
use Rattle.clone_recover.specs.Undoing.{IsHeaderOf}
use Rattle.clone_recover.specs.declared.refusal.RecoverRefusal.{RecoverRefusal}
use Rattle.clone_recover.proofs.DiskUndoLemmas.{page_or}
use Rattle.clone_recover.proofs.Counts.{never_used, free_counted, counted_is, few_counted}
use Rattle.clone_recover.proofs.OverlayReadLemmas.{for_same, both_for, weaker_for, edited_after, edited_twice, header_or}

-- A free slot.

pub no_header : (told : Option DiskImage) (s : ℕ) (old : Overlay) (o : Option SlotHeader) → ((h : SlotHeader) → o ≡ Some h → ⊥) → IsHeaderOf told old s o → ForImage told old (λ m image. undo_slot_of image s ≡ None)
no_header told s old None not is = is
no_header told s old (Some h) not is = absurd (not h refl)

pub stays_taken : (told : Option DiskImage) (s : ℕ) (old new : Overlay) → ForImage told old (λ m image. undo_slot_of image s ≡ None) → ShowsSame told old new → ShowsEdited told old new (λ image. taken_back image s (undo_slot_of image s))
stays_taken told s old new none same =
    both_for told old (λ m image. undo_slot_of image s ≡ None) (λ m image. Shows (image_of m) image new) (λ m image. Shows (image_of m) (taken_back image s (undo_slot_of image s)) new)
    (λ m image free shows. subst (λ (o : Option UndoSlot). Shows (image_of m) (taken_back image s o) new) (sym free) shows) none same

pub free_in_range : (told : Option DiskImage) (s : ℕ) (old : Overlay) → ForImage told old (λ m image. undo_slot_of image s ≡ None) → ForImage told old (λ m image. IsSlotInRange (undo_slot_of image s))
free_in_range told s old none =
    weaker_for told old (λ m image. undo_slot_of image s ≡ None) (λ m image. IsSlotInRange (undo_slot_of image s)) (λ m image free. subst IsSlotInRange (sym free) tt) none

-- a free slot isn't broken
not_broken : (image : Image) (s page : ℕ) → undo_slot_of image s ≡ None → IsBroken image s page → ⊥
not_broken image s page free (inl many) = free_counted image s page free many
not_broken image s page free (inr unsound) = never_used image s free unsound.used

pub free_unbroken : (told : Option DiskImage) (s : ℕ) (old : Overlay) → ForImage told old (λ m image. undo_slot_of image s ≡ None) → ForImage told old (λ m image. (page : ℕ) → IsBroken image s page → ⊥)
free_unbroken told s old none =
    weaker_for told old (λ m image. undo_slot_of image s ≡ None) (λ m image. (page : ℕ) → IsBroken image s page → ⊥) (λ m image free page broken. not_broken image s page free broken) none

-- A slot that is in use.

is_taken : (image : Image) (s count : ℕ) (h : HasChanges count s image) → freed (all_undone image (entries s (system_pages image) count)) s ≡ taken_back image s (undo_slot_of image s)
is_taken image s count h = ap (λ (es : List UndoEntry). freed (all_undone image es) s) (sym h.records) ∙ sym (ap (taken_back image s) h.is)

pub taken_through : (told second third : Option DiskImage) (s count : ℕ) (old mid undone new : Overlay) → second ≡ told → third ≡ told → ForImage told old (λ m image. HasChanges count s image) → ShowsSame told old mid
    → ShowsEdited second mid undone (λ image. all_undone image (entries s (system_pages image) count)) → ShowsEdited third undone new (λ image. freed image s) → ShowsEdited told old new (λ image. taken_back image s (undo_slot_of image s))
taken_through told second third s count old mid undone new same again has shows undoes frees =
    both_for told old (λ m image. HasChanges count s image) (λ m image. Shows (image_of m) (freed (all_undone image (entries s (system_pages image) count)) s) new) (λ m image. Shows (image_of m) (taken_back image s (undo_slot_of image s)) new)
    (λ m image h shown. subst (λ (i : Image). Shows (image_of m) i new) (is_taken image s count h) shown) has
    (edited_twice told third old undone new (λ image. all_undone image (entries s (system_pages image) count)) (λ image. freed image s) (λ image. freed (all_undone image (entries s (system_pages image) count)) s) again (λ image. refl)
    (edited_after told second old mid undone (λ image. all_undone image (entries s (system_pages image) count)) same shows undoes) frees)

pub taken_in_range : (told second : Option DiskImage) (s count : ℕ) (old mid : Overlay) → second ≡ told → ForImage told old (λ m image. HasChanges count s image) → ShowsSame told old mid
    → ForImage second mid (λ m image. AllByRecursion IsEntry (entries s (system_pages image) count)) → ForImage told old (λ m image. IsSlotInRange (undo_slot_of image s))
taken_in_range told second s count old mid same has shows ranges =
    both_for told old (λ m image. HasChanges count s image) (λ m image. AllByRecursion IsEntry (entries s (system_pages image) count)) (λ m image. IsSlotInRange (undo_slot_of image s))
    (λ m image h all. subst IsSlotInRange (sym h.is) (subst (AllByRecursion IsEntry) (sym h.records) all)) has
    (for_same told second old mid (λ m image. AllByRecursion IsEntry (entries s (system_pages image) count)) same shows ranges)

-- with few records, all of them sound, the slot isn't broken
all_sound : (image : Image) (s count page : ℕ) → count ≤ capacity → HasChanges count s image → ((page : ℕ) → IsUnsoundBelow image s count page → ⊥) → IsBroken image s page → ⊥
all_sound image s count page few h sound (inl many) = few_counted image s count page few h many
all_sound image s count page few h sound (inr unsound) =
    sound page (record { number = unsound.below.number; counted = subst (λ (c : ℕ). unsound.below.number < c) (counted_is image s count h) unsound.below.counted; at = unsound.below.at })

pub unbroken : (told second : Option DiskImage) (s count : ℕ) (old mid : Overlay) → second ≡ told → count ≤ capacity → ForImage told old (λ m image. HasChanges count s image) → ShowsSame told old mid
    → ForImage second mid (λ m image. (page : ℕ) → IsUnsoundBelow image s count page → ⊥) → ForImage told old (λ m image. (page : ℕ) → IsBroken image s page → ⊥)
unbroken told second s count old mid same few has shows sound =
    both_for told old (λ m image. HasChanges count s image) (λ m image. (page : ℕ) → IsUnsoundBelow image s count page → ⊥) (λ m image. (page : ℕ) → IsBroken image s page → ⊥)
    (λ m image h each page broken. all_sound image s count page few h each broken) has
    (for_same told second old mid (λ m image. (page : ℕ) → IsUnsoundBelow image s count page → ⊥) same shows sound)

-- Refusals.

is_unsound : (image : Image) (s count page : ℕ) → s < undo_slot_count → HasChanges count s image → IsUnsoundBelow image s count page → IsUnsound image s page
is_unsound image s count page low h below = record {
  within = low;
  used = in_use (system_pages image (header_page s)) (slot-tells s (system_pages image) h.slot h.is).active;
  below = record { number = below.number; counted = subst (λ (c : ℕ). below.number < c) (sym (counted_is image s count h)) below.counted; at = below.at };
}

pub undo_fails : (told second : Option DiskImage) (s count : ℕ) (old mid : Overlay) (e : RecoverRefusal) → s < undo_slot_count → second ≡ told → ForImage told old (λ m image. HasChanges count s image) → ShowsSame told old mid
    → PageOrOn second mid (λ image. IsUnsoundBelow image s count) e → PageOrOn told old (λ image. IsBroken image s) e
undo_fails told second s count old mid e low same has shows unsound =
    both_for told old (λ m image. HasChanges count s image) (λ m image. IsPageOr (IsUnsoundBelow image s count) m e) (λ m image. IsPageOr (IsBroken image s) m e)
    (λ m image h or. page_or (IsUnsoundBelow image s count) (IsBroken image s) e m (λ page below. inr (is_unsound image s count page low h below)) or) has
    (for_same told second old mid (λ m image. IsPageOr (IsUnsoundBelow image s count) m e) same shows unsound)

-- a page that isn't fetched after an edit
pub header_after : (told now : Option DiskImage) (old new : Overlay) (edit : Image → Image) (Q : Image → ℕ → Type 0) (e : RecoverRefusal) → now ≡ told → ShowsEdited told old new edit → HeaderOn now new e → PageOrOn told old Q e
header_after told now old new edit Q e is edits header = at told edits (subst (λ t. HeaderOn t new e) is header)
  where
    at : (t : Option DiskImage) → ShowsEdited t old new edit → HeaderOn t new e → PageOrOn t old Q e
    at None edits header = tt
    at (Some m) edits header = λ quiet image shows. header_or (Q image) e m (header quiet (edit image) (edits quiet image shows))

-- the same through the changes of a slot
pub free_fails : (told second third : Option DiskImage) (old mid undone : Overlay) (edit : Image → Image) (Q : Image → ℕ → Type 0) (e : RecoverRefusal) → second ≡ told → third ≡ told → ShowsSame told old mid → ShowsEdited second mid undone edit
    → HeaderOn third undone e → PageOrOn told old Q e
free_fails told second third old mid undone edit Q e same again shows undoes header =
    header_after told third old undone edit Q e again (edited_after told second old mid undone edit same shows undoes) header
