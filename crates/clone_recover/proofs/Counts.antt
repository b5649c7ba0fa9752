-- The counts of undo slots, over a disk.
use Rattle.std.proofs.Common.{◌≡◌, ◌<◌, ◌≤◌, ℕ, suc, length, Bool, true, cond, sym, ap, subst, ◌∙◌, arith, Some, None, inl, inr}
use Rattle.std.specs.Prelude.{IfSome}
use Rattle.std.specs.declared.option.Option.{Option}
use Rattle.std.proofs.lemmas.Bool.{cases_lt}
use Rattle.std.proofs.lemmas.Option.{none-some}
use Rattle.clone_outside.specs.Disk.{DiskImage}
use Rattle.clone_undo.specs.Places.{undo_slot_count, capacity, header_page}
use Rattle.clone_undo.specs.Slots.{is_in_use, count_of}
use Rattle.clone_undo.specs.declared.reading.SlotHeader.{SlotHeader}
use Rattle.clone_undo.proofs.Headers.{slot_of, slot-tells}
use Rattle.clone_undo.proofs.Entries.{length-entries}
use Rattle.clone_image.specs.Image.{Image}
use Rattle.clone_image.specs.Recovered.{system_pages, undo_slot_of}
use Rattle.clone_overlay.specs.Covers.{Overlay}
use Rattle.clone_overlay.specs.Shown.{ShowsSame}
use Rattle.clone_recover.specs.Undoing.{HasChanges}
use Rattle.clone_recover.specs.Damage.{ForImage, PageOrOn, IsPageOr, CountsTooMany, CountsFit, HasBroken, IsFirstBroken}
use Rattle.clone_recover.specs.Undoing.{HasHeader, IsHeaderOf}
use Rattle.clone_recover.specs.declared.refusal.RecoverRefusal.{RecoverRefusal}
use Rattle.clone_recover.proofs.DiskUndoLemmas.{page_or}
use Rattle.clone_recover.proofs.OverlayReadLemmas.{system_is, for_same, both_for, weaker_for}

-- One slot.

-- a free slot isn't in use
pub never_used : (image : Image) (s : ℕ) → undo_slot_of image s ≡ None → is_in_use (system_pages image (header_page s)) ≡ true → ⊥
never_used image s free used =
    none-some (slot_of s (system_pages image)) (sym free ∙ ap (λ (b : Bool). cond b (Some (slot_of s (system_pages image))) None) used)

pub free_counted : (image : Image) (s page : ℕ) → undo_slot_of image s ≡ None → CountsTooMany image s page → ⊥
free_counted image s page free many = never_used image s free (ap is_in_use (system_is image page (header_page s) many.bytes many.is many.there) ∙ many.used)

-- the count that the header of a slot in use has
pub counted_is : (image : Image) (s count : ℕ) → HasChanges count s image → count_of (system_pages image (header_page s)) ≡ count
counted_is image s count h = (slot-tells s (system_pages image) h.slot h.is).count ∙ ap length h.records ∙ length-entries s (system_pages image) count

pub few_counted : (image : Image) (s count page : ℕ) → count ≤ capacity → HasChanges count s image → CountsTooMany image s page → ⊥
few_counted image s count page few h many =
    absurd (omega (arith, few, many.many, counted_is image s count h, ap count_of (system_is image page (header_page s) many.bytes many.is many.there)))

header_counted : (image : Image) (s page : ℕ) (o : Option SlotHeader) → IfSome o (λ h. h.count ≤ capacity) → HasHeader image s o → CountsTooMany image s page → ⊥
header_counted image s page None few free many = free_counted image s page free many
header_counted image s page (Some h) few has many = few_counted image s h.count page few has many

-- All slots, one after the other.

-- no slot below a number tells too many records
abbrev pub FitsBelow : ℕ → Image → Type 0
FitsBelow s image = (slot page : ℕ) → slot < s → CountsTooMany image slot page → ⊥

abbrev pub FitsOn : Option DiskImage → ℕ → Overlay → Type 0
FitsOn told s first = ForImage told first (λ m image. FitsBelow s image)

pub fits_begin : (told : Option DiskImage) (first : Overlay) → FitsOn told 0 first
fits_begin None first = tt
fits_begin (Some m) first = λ quiet image shows slot page low. absurd (omega (arith, low))

one_more : (image : Image) (s next : ℕ) → next ≡ suc s → ((page : ℕ) → CountsTooMany image s page → ⊥) → FitsBelow s image → FitsBelow next image
one_more image s next is one before slot page low many = elim (cases_lt slot s) [
  | inl earlier ↦ before slot page earlier many
  | inr now ↦ let e : slot ≡ s = omega (arith, is, low, now) in one page (subst (λ (k : ℕ). CountsTooMany image k page) e many)
]

pub fits_go_on : (told now : Option DiskImage) (s next : ℕ) (first old : Overlay) (o : Option SlotHeader) → now ≡ told → next ≡ suc s → ShowsSame told first old → IfSome o (λ h. h.count ≤ capacity) → IsHeaderOf now old s o → FitsOn told s first
    → FitsOn told next first
fits_go_on told now s next first old o same is shows few header before =
    both_for told first (λ m image. HasHeader image s o) (λ m image. FitsBelow s image) (λ m image. FitsBelow next image)
    (λ m image has fits. one_more image s next is (λ page many. header_counted image s page o few has many) fits)
    (for_same told now first old (λ m image. HasHeader image s o) same shows header) before

pub fits_end : (told : Option DiskImage) (s : ℕ) (first : Overlay) → s ≡ undo_slot_count → FitsOn told s first → ForImage told first (λ m image. CountsFit image)
fits_end told s first all fits =
    weaker_for told first (λ m image. FitsBelow s image) (λ m image. CountsFit image) (λ m image below slot page many. below slot page (omega (arith, all, many.within)) many) fits

-- Where no count is too high, a record is what is broken.

by_record : (image : Image) (page : ℕ) → CountsFit image → HasBroken image page → IsFirstBroken image page
by_record image page fit broken = elim broken.1 [ inl many ↦ absurd (fit broken.0 page many) | inr unsound ↦ inr (fit, (broken.0, unsound)) ]

pub first_broken : (told now : Option DiskImage) (old new : Overlay) (e : RecoverRefusal) → now ≡ told → ShowsSame told old new → ForImage told old (λ m image. CountsFit image) → PageOrOn now new HasBroken e → PageOrOn told old IsFirstBroken e
first_broken told now old new e same shows fits or =
    both_for told old (λ m image. CountsFit image) (λ m image. IsPageOr (HasBroken image) m e) (λ m image. IsPageOr (IsFirstBroken image) m e)
    (λ m image fit is. page_or (HasBroken image) (IsFirstBroken image) e m (λ page broken. by_record image page fit broken) is) fits
    (for_same told now old new (λ m image. IsPageOr (HasBroken image) m e) same shows or)
