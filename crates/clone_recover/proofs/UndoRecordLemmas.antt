-- Undo records that are read over a disk, and whether they are sound.
use Rattle.std.proofs.Common.{◌≡◌, ℕ, List, Bool, true, false, refl, sym, ap, subst, ◌∙◌, Some, None, is_some}
use Rattle.std.specs.declared.option.Option.{Option}
use Rattle.std.proofs.lemmas.Bool.{false≢true}
use Rattle.std.proofs.lemmas.Option.{same_Some}
use Rattle.clone_outside.specs.Disk.{DiskImage}
use Rattle.clone_page.specs.Bytes.{put_at}
use Rattle.clone_page.specs.Slots.{slot_at}
use Rattle.clone_undo.specs.Changes.{slot_before}
use Rattle.clone_undo.specs.Entries.{UndoEntry, IsEntry}
use Rattle.clone_undo.specs.Places.{record_page}
use Rattle.clone_undo.specs.Slots.{entry_on}
use Rattle.clone_image.specs.Image.{Image, page_of, with_edit, edited}
use Rattle.clone_image.specs.Recovered.{undone}
use Rattle.clone_image.specs.Rows.{IsListed}
use Rattle.clone_overlay.specs.Covers.{Overlay}
use Rattle.clone_overlay.specs.Images.{image_of}
use Rattle.clone_overlay.specs.Shown.{Shows, ShowsSame}
use Rattle.clone_recover.proofs.UndoChanges.{undone_by}
use Rattle.clone_recover.specs.Damage.{ForImage, IsPageOr, PageOrOn, ShowsEdited, IsSound, IsUnsoundAt}
use Rattle.clone_recover.specs.declared.refusal.RecoverRefusal.{RecoverRefusal}
use Rattle.clone_recover.specs.declared.refusal.RecoverRefusal.TheVariants.{Damaged}
use Rattle.clone_recover.specs.declared.refusal.Why.TheVariants.{Undo}
use Rattle.clone_recover.specs.Undoing.{record_of, IsRecordOn, IsRecordOf, HasSoundRecord, IsSoundRecord}
use Rattle.clone_recover.proofs.OverlayReadLemmas.{for_same, both_for, weaker_for, same_twice, record_is}

-- What is sound.

same_record : (image : Image) (on number : ℕ) (e : UndoEntry) (bytes : List ℕ) → IsRecordOn image on number e → page_of image 0 on ≡ Some bytes → IsSound image (entry_on number bytes) → IsSound image e
same_record image on number e bytes r there sound = subst (IsSound image) (ap (entry_on number) (same_Some bytes r.bytes (sym there ∙ r.there)) ∙ sym r.is) sound

-- no such record is sound
pub never_sound : (image : Image) (on number : ℕ) (e : UndoEntry) → IsRecordOn image on number e → (IsSound image e → ⊥) → HasSoundRecord image on number None
never_sound image on number e r not = λ bytes there sound. not (same_record image on number e bytes r there sound)

recorded : (told : Option DiskImage) (now : Overlay) (on number : ℕ) (e : UndoEntry) → IsRecordOf now on number e → ForImage told now (λ m image. IsRecordOn image on number e)
recorded None now on number e is = tt
recorded (Some m) now on number e is = λ quiet image shows. is (image_of m) image shows

-- the dictionary doesn't name its table
pub unlisted : (told mid : Option DiskImage) (old now : Overlay) (on number table : ℕ) (e : UndoEntry) (listed : Bool) → mid ≡ told → table ≡ e.table → listed ≡ false → ShowsSame told old now → IsRecordOf now on number e
    → ForImage mid now (λ m image. listed ≡ false → IsListed (page_of image) table → ⊥) → IsSoundRecord told old on number None
unlisted told mid old now on number table e listed same of isnt shows is none =
    for_same told mid old now (λ m image. HasSoundRecord image on number None) same shows
    (both_for mid now (λ m image. IsRecordOn image on number e) (λ m image. listed ≡ false → IsListed (page_of image) table → ⊥) (λ m image. HasSoundRecord image on number None)
    (λ m image r out. never_sound image on number e r (λ sound. out isnt (subst (λ (t : ℕ). IsListed (page_of image) t) (sym of) sound.listed))) (recorded mid now on number e is) none)

-- its page isn't there
pub unstanding : (told mid : Option DiskImage) (old now : Overlay) (on number table page : ℕ) (e : UndoEntry) (there : Bool) → mid ≡ told → table ≡ e.table → page ≡ e.page → there ≡ false → ShowsSame told old now → IsRecordOf now on number e
    → ForImage mid now (λ m image. there ≡ is_some (page_of image table page)) → IsSoundRecord told old on number None
unstanding told mid old now on number table page e there same of on_page isnt shows is stands =
    for_same told mid old now (λ m image. HasSoundRecord image on number None) same shows
    (both_for mid now (λ m image. IsRecordOn image on number e) (λ m image. there ≡ is_some (page_of image table page)) (λ m image. HasSoundRecord image on number None)
    (λ m image r so. never_sound image on number e r (λ sound. false≢true (sym isnt ∙ so ∙ ap is_some ((λ i. page_of image (of i) (on_page i)) ∙ sound.there)))) (recorded mid now on number e is) stands)

page_there : (o : Option (List ℕ)) → is_some o ≡ true → (page : List ℕ) × (o ≡ Some page)
page_there None is = absurd (false≢true is)
page_there (Some page) is = (page, refl)

pub sound_record : (told mid : Option DiskImage) (old now : Overlay) (on number table space page : ℕ) (e : UndoEntry) (listed there : Bool) → mid ≡ told → table ≡ e.table → space ≡ e.table → page ≡ e.page → listed ≡ true → there ≡ true → IsEntry e → ShowsSame told old now → IsRecordOf now on number e
    → ForImage mid now (λ m image. listed ≡ true → IsListed (page_of image) table) → ForImage mid now (λ m image. there ≡ is_some (page_of image space page)) → IsSoundRecord told old on number (Some e)
sound_record told mid old now on number table space page e listed there same of in_space on_page holds here ranges shows is lists stands =
    for_same told mid old now (λ m image. HasSoundRecord image on number (Some e)) same shows
    (both_for mid now (λ m image. IsRecordOn image on number e) (λ m image. IsSound image e) (λ m image. HasSoundRecord image on number (Some e)) (λ m image r sound. (r, sound)) (recorded mid now on number e is)
    (both_for mid now (λ m image. listed ≡ true → IsListed (page_of image) table) (λ m image. there ≡ is_some (page_of image space page)) (λ m image. IsSound image e)
    (λ m image has so.
    let row = page_there (page_of image e.table e.page) (ap is_some (λ i. page_of image (sym in_space i) (sym on_page i)) ∙ sym so ∙ here) in
    record { ranges = ranges; listed = subst (λ (t : ℕ). IsListed (page_of image) t) of (has holds); row = row.0; there = row.1 })
    lists stands))

-- What is taken back.

pub undone_shows : (told mid : Option DiskImage) (old now read new : Overlay) (s number on table page at : ℕ) (bytes : List ℕ) (e : UndoEntry) → on ≡ record_page s number → table ≡ e.table → page ≡ e.page → at ≡ slot_at e.slot → bytes ≡ slot_before e → mid ≡ told
    → ShowsSame told old now → ShowsSame mid now read → IsSoundRecord told old on number (Some e) → ((base image : Image) → Shows base image read → Shows base (with_edit image table (edited page (put_at at bytes))) new)
    → ShowsEdited told old new (λ image. undone image (record_of image s number))
undone_shows told mid old now read new s number on table page at bytes e is p q r b same first second sound laid =
    both_for told old (λ m image. HasSoundRecord image on number (Some e)) (λ m image. Shows (image_of m) image read) (λ m image. Shows (image_of m) (undone image (record_of image s number)) new)
    (λ m image has shown. subst (λ (i : Image). Shows (image_of m) i new) (undone_by image e table page at bytes p q r b ∙ ap (undone image) (record_is image s number on e is has.0)) (laid (image_of m) image shown)) sound
    (same_twice told mid old now read same first second)

pub entry_in_range : (told : Option DiskImage) (old : Overlay) (s number on : ℕ) (e : UndoEntry) → on ≡ record_page s number → IsSoundRecord told old on number (Some e) → ForImage told old (λ m image. IsEntry (record_of image s number))
entry_in_range told old s number on e is sound =
    weaker_for told old (λ m image. HasSoundRecord image on number (Some e)) (λ m image. IsEntry (record_of image s number)) (λ m image has. subst IsEntry (record_is image s number on e is has.0) has.1.ranges) sound

-- a record that is sound isn't unsound
sound_at : (image : Image) (s number on page : ℕ) (e : UndoEntry) → on ≡ record_page s number → IsRecordOn image on number e → IsSound image e → IsUnsoundAt image s number page → ⊥
sound_at image s number on page e is r sound unsound = unsound.against r.bytes (ap (page_of image 0) (unsound.is ∙ sym is) ∙ r.there) (subst (IsSound image) r.is sound)

pub never_unsound : (told : Option DiskImage) (old : Overlay) (s number on : ℕ) (e : UndoEntry) → on ≡ record_page s number → IsSoundRecord told old on number (Some e) → ForImage told old (λ m image. (page : ℕ) → IsUnsoundAt image s number page → ⊥)
never_unsound told old s number on e is sound =
    weaker_for told old (λ m image. HasSoundRecord image on number (Some e)) (λ m image. (page : ℕ) → IsUnsoundAt image s number page → ⊥) (λ m image has page unsound. sound_at image s number on page e is has.0 has.1 unsound) sound

-- no sound record was found
pub unsound_fails : (told : Option DiskImage) (now : Overlay) (slot number on : ℕ) (found : Option UndoEntry) (e : RecoverRefusal) → on ≡ record_page slot number → ((x : UndoEntry) → found ≡ Some x → ⊥) → e ≡ Damaged 0 on Undo → IsSoundRecord told now on number found
    → PageOrOn told now (λ image. IsUnsoundAt image slot number) e
unsound_fails None now slot number on found e page none is not = tt
unsound_fails (Some m) now slot number on (Some x) e page none is not = absurd (none x refl)
unsound_fails (Some m) now slot number on None e page none is not = λ quiet image shows.
    subst (IsPageOr (IsUnsoundAt image slot number) m) (sym is) (refl, record { is = page; against = not quiet image shows })
