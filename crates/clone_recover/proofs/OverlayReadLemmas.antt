-- What is read of an overlay holds of the images that it shows, and of those that it showed before it was read.
use Rattle.std.proofs.Common.{◌≡◌, ◌<◌, ℕ, List, [], refl, sym, ap, subst, ◌∙◌, Bool, true, false, cond, Some, None}
use Rattle.std.specs.Prelude.{unwrap_or, IfSome, ⊤}
use Rattle.std.specs.declared.option.Option.{Option}
use Rattle.clone_outside.specs.Disk.{DiskImage}
use Rattle.clone_undo.specs.Entries.{UndoEntry}
use Rattle.clone_undo.specs.Places.{undo_slot_count, capacity, header_page, record_page}
use Rattle.clone_undo.specs.Slots.{is_in_use, count_of, entry_on}
use Rattle.clone_undo.specs.declared.reading.SlotHeader.{SlotHeader}
use Rattle.clone_undo.proofs.Headers.{slot_of}
use Rattle.clone_image.specs.Image.{Image, page_of}
use Rattle.clone_image.specs.Recovered.{system_pages, undo_slot_of}
use Rattle.clone_overlay.specs.Covers.{Overlay}
use Rattle.clone_overlay.specs.Images.{image_of}
use Rattle.clone_overlay.specs.Shown.{Shows, ShowsSame, ForBase, IsMisplaced}
use Rattle.clone_overlay.specs.declared.overlay.FetchRefusal.{FetchRefusal}
use Rattle.clone_overlay.specs.declared.overlay.FetchRefusal.TheVariants as fetch
use Rattle.clone_recover.proofs.UndoSlots.{has_changes}
use Rattle.clone_recover.specs.Damage.{ForImage, ShowsEdited, HeaderOn, PageOrOn, IsHeader, IsPageOr, CountsTooMany}
use Rattle.clone_recover.specs.Refusals.{not_fetched}
use Rattle.clone_recover.specs.Undoing.{record_of, HasHeader, IsRecordOn}
use Rattle.clone_recover.proofs.DiskUndoLemmas.{page_or}
use Rattle.clone_recover.specs.declared.refusal.Why.TheVariants as why
use Rattle.clone_recover.specs.declared.refusal.RecoverRefusal.{RecoverRefusal}
use Rattle.clone_recover.specs.declared.refusal.RecoverRefusal.TheVariants.{Incomplete, Damaged, DiskFault, NoMemory}

-- a fact of each image that the overlay shows now
pub for_shown : (told : Option DiskImage) (old new : Overlay) (P : DiskImage → Image → Type 0) → ShowsSame told old new → ((m : DiskImage) (image : Image) → Shows (image_of m) image new → P m image) → ForImage told old P
for_shown None old new P same fact = tt
for_shown (Some m) old new P same fact = λ quiet image shows. fact m image (same quiet image shows)

-- the same, where the disk was quiet
pub for_same : (told now : Option DiskImage) (old new : Overlay) (P : DiskImage → Image → Type 0) → now ≡ told → ShowsSame told old new → ForImage now new P → ForImage told old P
for_same told now old new P is same fact = at told same (subst (λ t. ForImage t new P) is fact)
  where
    at : (t : Option DiskImage) → ShowsSame t old new → ForImage t new P → ForImage t old P
    at None same fact = tt
    at (Some m) same fact = λ quiet image shows. fact quiet image (same quiet image shows)

pub same_twice : (told now : Option DiskImage) (old mid new : Overlay) → now ≡ told → ShowsSame told old mid → ShowsSame now mid new → ShowsSame told old new
same_twice told now old mid new is first second = for_same told now old mid (λ m image. Shows (image_of m) image new) is first second

pub both_for : (told : Option DiskImage) (old : Overlay) (P Q R : DiskImage → Image → Type 0) → ((m : DiskImage) (image : Image) → P m image → Q m image → R m image) → ForImage told old P → ForImage told old Q → ForImage told old R
both_for None old P Q R gives p q = tt
both_for (Some m) old P Q R gives p q = λ quiet image shows. gives m image (p quiet image shows) (q quiet image shows)

pub weaker_for : (told : Option DiskImage) (old : Overlay) (P Q : DiskImage → Image → Type 0) → ((m : DiskImage) (image : Image) → P m image → Q m image) → ForImage told old P → ForImage told old Q
weaker_for None old P Q gives p = tt
weaker_for (Some m) old P Q gives p = λ quiet image shows. gives m image (p quiet image shows)

-- an edit of what is shown now is one of what was shown before
pub edited_after : (told now : Option DiskImage) (old mid new : Overlay) (edit : Image → Image) → now ≡ told → ShowsSame told old mid → ShowsEdited now mid new edit → ShowsEdited told old new edit
edited_after told now old mid new edit is same edits = for_same told now old mid (λ m image. Shows (image_of m) (edit image) new) is same edits

-- two edits, one after the other
pub edited_twice : (told now : Option DiskImage) (old mid new : Overlay) (f g h : Image → Image) → now ≡ told → ((image : Image) → g (f image) ≡ h image) → ShowsEdited told old mid f → ShowsEdited now mid new g → ShowsEdited told old new h
edited_twice told now old mid new f g h is joins first second = at told first (subst (λ t. ShowsEdited t mid new g) is second)
  where
    at : (t : Option DiskImage) → ShowsEdited t old mid f → ShowsEdited t mid new g → ShowsEdited t old new h
    at None first second = tt
    at (Some m) first second = λ quiet image shows. subst (λ (i : Image). Shows (image_of m) i new) (joins image) (second quiet (f image) (first quiet image shows))

-- Refusals.

pub header_or : (P : ℕ → Type 0) (e : RecoverRefusal) (m : DiskImage) → IsHeader m e → IsPageOr P m e
header_or P Incomplete m is = is
header_or P (Damaged s p why.Header) m is = is
header_or P (Damaged s p why.Redo) m is = is
header_or P (Damaged s p why.Dictionary) m is = is
header_or P (Damaged s p why.Undo) m is = absurd is
header_or P (Damaged s p why.Chain) m is = absurd is
header_or P DiskFault m is = is
header_or P NoMemory m is = is

-- Headers of undo slots.

pub system_is : (image : Image) (n k : ℕ) (page : List ℕ) → n ≡ k → page_of image 0 n ≡ Some page → system_pages image k ≡ page
system_is image n k page same there = ap (λ o. unwrap_or o []) (sym (ap (page_of image 0) same) ∙ there)

free_slot : (image : Image) (s : ℕ) → is_in_use (system_pages image (header_page s)) ≡ false → undo_slot_of image s ≡ None
free_slot image s free = ap (λ (b : Bool). cond b (Some (slot_of s (system_pages image))) None) free

-- the header's page isn't there
pub header_nowhere : (image : Image) (s n : ℕ) → n ≡ header_page s → None ≡ page_of image 0 n → undo_slot_of image s ≡ None
header_nowhere image s n is none =
    free_slot image s (ap (λ (o : Option (List ℕ)). is_in_use (unwrap_or o [])) (ap (page_of image 0) (sym is) ∙ sym none))

pub header_there : (image : Image) (s n : ℕ) (page : List ℕ) (r : Option SlotHeader) → n ≡ header_page s → Some page ≡ page_of image 0 n
    → IfSome r (λ h. is_in_use page ≡ true) → IfSome r (λ h. h.count ≡ count_of page) → (r ≡ None → is_in_use page ≡ false) → HasHeader image s r
header_there image s n page None is there used count free = free_slot image s (ap is_in_use (system_is image n (header_page s) page is (sym there)) ∙ free refl)
header_there image s n page (Some h) is there used count free = has_changes image s page (Some h) (ap (page_of image 0) (sym is) ∙ sym there) used count

pub too_many : (image : Image) (s n : ℕ) (page : List ℕ) (count : ℕ) → s < undo_slot_count → n ≡ header_page s → Some page ≡ page_of image 0 n → is_in_use page ≡ true → count ≡ count_of page → capacity < count → CountsTooMany image s n
too_many image s n page count low is there used has many = record { within = low; is = is; bytes = page; there = sym there; used = used; many = subst (λ (c : ℕ). capacity < c) has many }

-- Undo records.

pub record_is : (image : Image) (s number on : ℕ) (entry : UndoEntry) → on ≡ record_page s number → IsRecordOn image on number entry → entry ≡ record_of image s number
record_is image s number on entry is r = r.is ∙ ap (entry_on number) (sym (system_is image on (record_page s number) r.bytes is r.there))

-- A page that isn't fetched.

pub always : (told : Option DiskImage) (overlay : Overlay) → ForImage told overlay (λ m image. ⊤)
always None overlay = tt
always (Some m) overlay = λ quiet image shows. tt

pub fetch_fails : (told : Option DiskImage) (overlay : Overlay) (s n : ℕ) (e : FetchRefusal) (r : RecoverRefusal) → r ≡ not_fetched s n e → (e ≡ fetch.Header → ForBase told overlay (IsMisplaced s n)) → HeaderOn told overlay r
fetch_fails told overlay s n fetch.Header r is header = subst (HeaderOn told overlay) (sym is) (header refl)
fetch_fails told overlay s n fetch.DiskFault r is header = subst (HeaderOn told overlay) (sym is) (always told overlay)
fetch_fails told overlay s n fetch.NoMemory r is header = subst (HeaderOn told overlay) (sym is) (always told overlay)

-- Refusals of what is shown now as refusals of what was shown before.

pub same_itself : (told : Option DiskImage) (overlay : Overlay) → ShowsSame told overlay overlay
same_itself None overlay = tt
same_itself (Some m) overlay = λ quiet image shows. shows

pub page_or_on : (told now : Option DiskImage) (old new : Overlay) (P Q : Image → ℕ → Type 0) (e : RecoverRefusal) → now ≡ told → ShowsSame told old new → ((image : Image) (page : ℕ) → P image page → Q image page) → PageOrOn now new P e → PageOrOn told old Q e
page_or_on told now old new P Q e is same gives or =
    weaker_for told old (λ m image. IsPageOr (P image) m e) (λ m image. IsPageOr (Q image) m e) (λ m image. page_or (P image) (Q image) e m (gives image)) (for_same told now old new (λ m image. IsPageOr (P image) m e) is same or)

pub header_on_or : (told now : Option DiskImage) (old new : Overlay) (Q : Image → ℕ → Type 0) (e : RecoverRefusal) → now ≡ told → ShowsSame told old new → HeaderOn now new e → PageOrOn told old Q e
header_on_or told now old new Q e is same header =
    weaker_for told old (λ m image. IsHeader m e) (λ m image. IsPageOr (Q image) m e) (λ m image. header_or (Q image) e m) (for_same told now old new (λ m image. IsHeader m e) is same header)

pub header_same : (told now : Option DiskImage) (old new : Overlay) (e : RecoverRefusal) → now ≡ told → ShowsSame told old new → HeaderOn now new e → HeaderOn told old e
header_same told now old new e is same header = for_same told now old new (λ m image. IsHeader m e) is same header

-- a page of the system space that is damaged
pub undo_damage : (told : Option DiskImage) (old : Overlay) (Q : Image → ℕ → Type 0) (page : ℕ) (e : RecoverRefusal) → e ≡ Damaged 0 page why.Undo → ForImage told old (λ m image. Q image page) → PageOrOn told old Q e
undo_damage told old Q page e is damage =
    subst (PageOrOn told old Q) (sym is) (weaker_for told old (λ m image. Q image page) (λ m image. IsPageOr (Q image) m (Damaged 0 page why.Undo)) (λ m image q. (refl, q)) damage)
