-- Changes are taken back over a disk, slot by slot.
use Rattle.std.proofs.Common.{◌≡◌, ◌<◌, ◌≤◌, ◌==◌, ◌&&◌, ◌⊎◌, ℕ, suc, List, [], ◌∷◌, replicate, refl, sym, ap, subst, ◌∙◌, arith, Bool, true, false, cond, Some, None, is_some, inl, inr}
use Rattle.std.specs.Prelude.{unwrap_or, IsSomeAnd}
use Rattle.std.specs.declared.option.Option.{Option}
use Rattle.std.specs.List.{AllByRecursion}
use Rattle.std.proofs.lemmas.Bool.{cases_lt}
use Rattle.clone_page.specs.Bytes.{put_at}
use Rattle.clone_page.specs.Dictionary.{Lists}
use Rattle.clone_page.specs.Slots.{slot_at}
use Rattle.clone_outside.specs.Disk.{DiskImage}
use Rattle.clone_undo.specs.Changes.{slot_before}
use Rattle.clone_undo.specs.Entries.{UndoEntry, IsEntry}
use Rattle.clone_undo.specs.Places.{undo_slot_count, header_page, header_offset}
use Rattle.clone_undo.specs.Slots.{UndoSlot, is_in_use, count_of, entry_on, entries}
use Rattle.clone_image.specs.Image.{Image, page_of, with_edit, edited}
use Rattle.clone_image.specs.Recovered.{system_pages, undo_slot_of, undone, all_undone, taken_back, recovered}
use Rattle.clone_image.specs.Redone.{Standing, no_space, past_end, stands, standing_of}
use Rattle.clone_image.proofs.Images.{page_of-edited_other}
use Rattle.clone_image.proofs.Standings.{edited_standing, edited_is}
use Rattle.clone_overlay.specs.Covers.{Overlay}
use Rattle.clone_overlay.specs.Images.{image_of}
use Rattle.clone_overlay.specs.Shown.{Shows}
use Rattle.clone_overlay.proofs.OverlayImageLemmas.{page_standing, page_stands}
use Rattle.clone_recover.specs.Undoing.{IsSlotInRange}
use Rattle.clone_recover.proofs.UndoChanges.{Undoing, undoing_begins, undoing_goes_on, undoing_ranges}
use Rattle.clone_recover.proofs.UndoSlots.{TakingBack, taking_begins, taking_goes_on, taking_ends}
use Rattle.clone_recover.specs.Damage.{ForImage, ShowsEdited, IsPageOr, PageOrOn, IsSound, IsUnsoundAt, IsUnsoundBelow, IsBroken, HasBroken}
use Rattle.clone_recover.specs.Undoing.{record_of}
use Rattle.clone_recover.specs.declared.refusal.Why.TheVariants as why
use Rattle.clone_recover.specs.declared.refusal.RecoverRefusal.{RecoverRefusal}
use Rattle.clone_recover.specs.declared.refusal.RecoverRefusal.TheVariants.{Incomplete, Damaged, DiskFault, NoMemory}

-- The same pages are there, and those of the system space from a number on, and its first one, have the same bytes.
pub record Keeps (from : ℕ) (start image : Image) : Type 0 where
  pub pages : (n : ℕ) → (n ≡ 0) ⊎ (from ≤ n) → page_of image 0 n ≡ page_of start 0 n
  pub there : (s n : ℕ) → is_some (page_of image s n) ≡ is_some (page_of start s n)

-- what is kept of one image is kept of the other
keeps_back : (from : ℕ) (start image : Image) → Keeps from start image → Keeps from image start
keeps_back from start image k = record { pages = λ n low. sym (k.pages n low); there = λ s n. sym (k.there s n) }

keeps_fewer : (from : ℕ) (start image : Image) → Keeps 0 start image → Keeps from start image
keeps_fewer from start image k = record { pages = λ n low. k.pages n (inr (omega arith)); there = k.there }

pub keeps_all : (from : ℕ) (start : Image) → Keeps from start start
keeps_all from start = record { pages = λ n low. refl; there = λ s n. refl }

still : (b : Bool) (edit : List ℕ → List ℕ) (p : Standing) → is_some (page_standing (cond b (edited_standing edit p) p)) ≡ is_some (page_standing p)
still false edit p = refl
still true edit no_space = refl
still true edit past_end = refl
still true edit (stands page) = refl

-- an edit leaves each page there
edit_there : (image : Image) (s k : ℕ) (edit : List ℕ → List ℕ) (t n : ℕ) → is_some (page_of (with_edit image s (edited k edit)) t n) ≡ is_some (page_of image t n)
edit_there image s k edit t n =
    ap is_some (page_stands (with_edit image s (edited k edit)) t n ∙ ap page_standing (edited_is image s k t n edit)) ∙ still ((s == t) && (k == n)) edit (standing_of image t n) ∙ sym (ap is_some (page_stands image t n))

keeps_undone : (from : ℕ) (start image : Image) (e : UndoEntry) → IsEntry e → Keeps from start image → Keeps from start (undone image e)
keeps_undone from start image e is k = record {
  pages = λ n low. page_of-edited_other image e.table e.page 0 n (put_at (slot_at e.slot) (slot_before e)) (λ t m. omega (arith, t, is.row_slot.0)) ∙ k.pages n low;
  there = λ s n. edit_there image e.table e.page (put_at (slot_at e.slot) (slot_before e)) s n ∙ k.there s n;
}

keeps_all_undone : (from : ℕ) (start image : Image) (es : List UndoEntry) → AllByRecursion IsEntry es → Keeps from start image → Keeps from start (all_undone image es)
keeps_all_undone from start image [] each k = k
keeps_all_undone from start image (e ∷ es) each k = keeps_undone from start (all_undone image es) e each.0 (keeps_all_undone from start image es each.1 k)

keeps_freed : (s : ℕ) (start image : Image) (bytes : List ℕ) → Keeps (header_page s) start image → Keeps (header_page (suc s)) start (with_edit image 0 (edited (header_page s) (put_at header_offset bytes)))
keeps_freed s start image bytes k = record {
  pages = λ n low.
      page_of-edited_other image 0 (header_page s) 0 n (put_at header_offset bytes) (λ t m. elim low [ inl first ↦ omega (arith, first, m) | inr high ↦ omega (arith, high, m) ])
      ∙ k.pages n (elim low [ inl first ↦ inl first | inr high ↦ inr (omega (arith, high)) ]);
  there = λ t n. edit_there image 0 (header_page s) (put_at header_offset bytes) t n ∙ k.there t n;
}

keeps_slot : (s : ℕ) (start image : Image) (slot : Option UndoSlot) → IsSlotInRange slot → Keeps (header_page s) start image → Keeps (header_page (suc s)) start (taken_back image s slot)
keeps_slot s start image None range k = record {
  pages = λ n low. k.pages n (elim low [ inl first ↦ inl first | inr high ↦ inr (omega (arith, high)) ]);
  there = k.there;
}
keeps_slot s start image (Some u) range k = keeps_freed s start (all_undone image u.records) (replicate 16 0) (keeps_all_undone (header_page s) start image u.records range k)

-- What is against the format now was so at first.

some_page : (o : Option (List ℕ)) → is_some o ≡ true → (page : List ℕ) × (o ≡ Some page)
some_page None is = absurd (let e : false ≡ true = is in cc)
some_page (Some page) is = (page, refl)

kept_sound : (from : ℕ) (start image : Image) (e : UndoEntry) → Keeps from start image → IsSound start e → IsSound image e
kept_sound from start image e k sound =
    let row = some_page (page_of image e.table e.page) (k.there e.table e.page ∙ ap is_some sound.there) in
    record {
      ranges = sound.ranges;
      listed = subst (λ o. IsSomeAnd o (λ page. Lists page e.table)) (sym (k.pages 0 (inl refl))) sound.listed;
      row = row.0;
      there = row.1;
    }

pub kept_unsound : (s number page : ℕ) (start image : Image) → Keeps (header_page s) start image → IsUnsoundAt image s number page → IsUnsoundAt start s number page
kept_unsound s number page start image k unsound = record {
  is = unsound.is;
  against = λ bytes there sound. unsound.against bytes (k.pages page (inr (omega (arith, unsound.is))) ∙ there) (kept_sound (header_page s) start image (entry_on number bytes) k sound);
}

kept_system : (s : ℕ) (start image : Image) → Keeps (header_page s) start image → system_pages image (header_page s) ≡ system_pages start (header_page s)
kept_system s start image k = ap (λ o. unwrap_or o []) (k.pages (header_page s) (inr (omega arith)))

pub kept_broken : (s page : ℕ) (start image : Image) → Keeps (header_page s) start image → IsBroken image s page → IsBroken start s page
kept_broken s page start image k (inl many) = inl record {
  within = many.within;
  is = many.is;
  bytes = many.bytes;
  there = sym (k.pages page (inr (omega (arith, many.is)))) ∙ many.there;
  used = many.used;
  many = many.many;
}
kept_broken s page start image k (inr unsound) = inr record {
  within = unsound.within;
  used = ap is_in_use (sym (kept_system s start image k)) ∙ unsound.used;
  below = record {
    number = unsound.below.number;
    counted = subst (λ (c : ℕ). unsound.below.number < c) (ap count_of (kept_system s start image k)) unsound.below.counted;
    at = kept_unsound s unsound.below.number page start image k unsound.below.at;
  };
}

-- Refusals.

pub page_or : (P Q : ℕ → Type 0) (e : RecoverRefusal) (m : DiskImage) → ((page : ℕ) → P page → Q page) → IsPageOr P m e → IsPageOr Q m e
page_or P Q Incomplete m gives is = is
page_or P Q (Damaged s p why.Header) m gives is = is
page_or P Q (Damaged s p why.Redo) m gives is = is
page_or P Q (Damaged s p why.Dictionary) m gives is = is
page_or P Q (Damaged s p why.Undo) m gives is = (is.0, gives p is.1)
page_or P Q (Damaged s p why.Chain) m gives is = is
page_or P Q DiskFault m gives is = is
page_or P Q NoMemory m gives is = is

-- The changes of one slot.

-- so many changes of a slot are left to be taken back, over a disk
pub record Halfway (m : DiskImage) (s count left : ℕ) (start : Image) (now : Overlay) : Type 0 where
  pub image : Image
  pub shows : Shows (image_of m) image now
  pub undoing : Undoing s count left start image
  pub keeps : Keeps 0 start image
  pub sound : (n page : ℕ) → left ≤ n → n < count → IsUnsoundAt start s n page → ⊥

abbrev pub HalfwayOn : Option DiskImage → ℕ → ℕ → ℕ → Overlay → Overlay → Type 0
HalfwayOn told s count left first now = ForImage told first (λ m image. Halfway m s count left image now)

pub half_begins : (told : Option DiskImage) (s count : ℕ) (first : Overlay) → HalfwayOn told s count count first first
half_begins None s count first = tt
half_begins (Some m) s count first = λ quiet image shows. record {
  image = image;
  shows = shows;
  undoing = undoing_begins s count image;
  keeps = keeps_all 0 image;
  sound = λ n page low high. absurd (omega (arith, low, high));
}

-- one more record is sound
one_more : (s count left n : ℕ) (start image : Image) → left ≡ suc n → Keeps 0 start image → ((page : ℕ) → IsUnsoundAt image s n page → ⊥) → ((k page : ℕ) → left ≤ k → k < count → IsUnsoundAt start s k page → ⊥)
    → (k page : ℕ) → n ≤ k → k < count → IsUnsoundAt start s k page → ⊥
one_more s count left n start image is keeps one before k page low high unsound = elim (cases_lt n k) [
  | inl later ↦ before k page (omega (arith, is, later)) high unsound
  | inr now ↦
      let e : k ≡ n = omega (arith, low, now) in
      one page (kept_unsound s n page image start (keeps_back (header_page s) start image (keeps_fewer (header_page s) start image keeps)) (subst (λ (i : ℕ). IsUnsoundAt start s i page) e unsound))
]

pub half_goes_on : (told : Option DiskImage) (s count left n : ℕ) (first old new : Overlay) → left ≡ suc n → HalfwayOn told s count left first old → ShowsEdited told old new (λ image. undone image (record_of image s n)) → ForImage told old (λ m image. IsEntry (record_of image s n))
    → ForImage told old (λ m image. (page : ℕ) → IsUnsoundAt image s n page → ⊥) → HalfwayOn told s count n first new
half_goes_on None s count left n first old new is half edits range sound = tt
half_goes_on (Some m) s count left n first old new is half edits range sound = λ quiet image shows.
    let h = half quiet image shows in
    let one = range quiet h.image h.shows in
    record {
      image = undone h.image (record_of h.image s n);
      shows = edits quiet h.image h.shows;
      undoing = undoing_goes_on s count n image h.image (undone h.image (record_of h.image s n)) refl one (subst (λ (k : ℕ). Undoing s count k image h.image) is h.undoing);
      keeps = keeps_undone 0 image h.image (record_of h.image s n) one h.keeps;
      sound = one_more s count left n image h.image is h.keeps (sound quiet h.image h.shows) h.sound;
    }

pub half_edits : (told : Option DiskImage) (s count left : ℕ) (first now : Overlay) → left ≡ 0 → HalfwayOn told s count left first now → ShowsEdited told first now (λ image. all_undone image (entries s (system_pages image) count))
half_edits None s count left first now none half = tt
half_edits (Some m) s count left first now none half = λ quiet image shows.
    let h = half quiet image shows in
    let u = subst (λ (k : ℕ). Undoing s count k image h.image) none h.undoing in
    subst (λ (i : Image). Shows (image_of m) i now) u.made h.shows

pub half_ranges : (told : Option DiskImage) (s count left : ℕ) (first now : Overlay) → left ≡ 0 → HalfwayOn told s count left first now → ForImage told first (λ m image. AllByRecursion IsEntry (entries s (system_pages image) count))
half_ranges None s count left first now none half = tt
half_ranges (Some m) s count left first now none half = λ quiet image shows.
    let h = half quiet image shows in
    undoing_ranges s count image h.image (subst (λ (k : ℕ). Undoing s count k image h.image) none h.undoing)

pub half_sound : (told : Option DiskImage) (s count left : ℕ) (first now : Overlay) → left ≡ 0 → HalfwayOn told s count left first now → ForImage told first (λ m image. (page : ℕ) → IsUnsoundBelow image s count page → ⊥)
half_sound None s count left first now none half = tt
half_sound (Some m) s count left first now none half = λ quiet image shows page below.
    let h = half quiet image shows in
    h.sound below.number page (omega (arith, none)) below.counted below.at

pub half_fails : (told : Option DiskImage) (s count left n : ℕ) (first now : Overlay) (e : RecoverRefusal) → n < count → HalfwayOn told s count left first now → PageOrOn told now (λ image. IsUnsoundAt image s n) e
    → PageOrOn told first (λ image. IsUnsoundBelow image s count) e
half_fails None s count left n first now e lt half unsound = tt
half_fails (Some m) s count left n first now e lt half unsound = λ quiet image shows.
    let h = half quiet image shows in
    page_or (IsUnsoundAt h.image s n) (IsUnsoundBelow image s count) e m
    (λ page at. record {
      number = n;
      counted = lt;
      at = kept_unsound s n page image h.image (keeps_fewer (header_page s) image h.image h.keeps) at;
    }) (unsound quiet h.image h.shows)

-- The slots, one after the other.

pub record Taking (m : DiskImage) (s : ℕ) (start : Image) (now : Overlay) : Type 0 where
  pub image : Image
  pub shows : Shows (image_of m) image now
  pub taking : TakingBack s start image
  pub keeps : Keeps (header_page s) start image
  pub sound : (i page : ℕ) → i < s → IsBroken start i page → ⊥

abbrev pub TakingOn : Option DiskImage → ℕ → Overlay → Overlay → Type 0
TakingOn told s first now = ForImage told first (λ m image. Taking m s image now)

pub take_begins : (told : Option DiskImage) (first : Overlay) → TakingOn told 0 first first
take_begins None first = tt
take_begins (Some m) first = λ quiet image shows. record {
  image = image;
  shows = shows;
  taking = taking_begins image image refl;
  keeps = keeps_all (header_page 0) image;
  sound = λ i page low. absurd (omega (arith, low));
}

-- one more slot isn't broken
one_slot_more : (s next : ℕ) (start image : Image) → next ≡ suc s → Keeps (header_page s) start image → ((page : ℕ) → IsBroken image s page → ⊥) → ((i page : ℕ) → i < s → IsBroken start i page → ⊥)
    → (i page : ℕ) → i < next → IsBroken start i page → ⊥
one_slot_more s next start image is keeps one before i page low broken = elim (cases_lt i s) [
  | inl earlier ↦ before i page earlier broken
  | inr now ↦
      let e : i ≡ s = omega (arith, is, low, now) in
      one page (kept_broken s page image start (keeps_back (header_page s) start image keeps) (subst (λ (k : ℕ). IsBroken start k page) e broken))
]

pub take_goes_on : (told : Option DiskImage) (s next : ℕ) (first old new : Overlay) → next ≡ suc s → TakingOn told s first old → ShowsEdited told old new (λ image. taken_back image s (undo_slot_of image s)) → ForImage told old (λ m image. IsSlotInRange (undo_slot_of image s))
    → ForImage told old (λ m image. (page : ℕ) → IsBroken image s page → ⊥) → TakingOn told next first new
take_goes_on None s next first old new is taking edits range sound = tt
take_goes_on (Some m) s next first old new is taking edits range sound = λ quiet image shows.
    let t = taking quiet image shows in
    let slot = undo_slot_of t.image s in
    let one = range quiet t.image t.shows in
    record {
      image = taken_back t.image s slot;
      shows = edits quiet t.image t.shows;
      taking = taking_goes_on s next image t.image (taken_back t.image s slot) is refl one t.taking;
      keeps = subst (λ (k : ℕ). Keeps (header_page k) image (taken_back t.image s slot)) (sym is) (keeps_slot s image t.image slot one t.keeps);
      sound = one_slot_more s next image t.image is t.keeps (sound quiet t.image t.shows) t.sound;
    }

pub take_ends : (told : Option DiskImage) (s : ℕ) (first now : Overlay) → s ≡ undo_slot_count → TakingOn told s first now → ShowsEdited told first now recovered
take_ends None s first now all taking = tt
take_ends (Some m) s first now all taking = λ quiet image shows.
    let t = taking quiet image shows in
    subst (λ (i : Image). Shows (image_of m) i now) (taking_ends s image t.image all t.taking).0 t.shows

slot_within : (image : Image) (s page : ℕ) → IsBroken image s page → s < undo_slot_count
slot_within image s page (inl many) = many.within
slot_within image s page (inr unsound) = unsound.within

pub take_sound : (told : Option DiskImage) (s : ℕ) (first now : Overlay) → s ≡ undo_slot_count → TakingOn told s first now → ForImage told first (λ m image. (page : ℕ) → HasBroken image page → ⊥)
take_sound None s first now all taking = tt
take_sound (Some m) s first now all taking = λ quiet image shows page broken.
    let t = taking quiet image shows in
    t.sound broken.0 page (omega (arith, all, slot_within image broken.0 page broken.1)) broken.1

pub take_fails : (told : Option DiskImage) (s : ℕ) (first now : Overlay) (e : RecoverRefusal) → TakingOn told s first now → PageOrOn told now (λ image. IsBroken image s) e → PageOrOn told first HasBroken e
take_fails None s first now e taking broken = tt
take_fails (Some m) s first now e taking broken = λ quiet image shows.
    let t = taking quiet image shows in
    page_or (IsBroken t.image s) (HasBroken image) e m (λ page is. (s, kept_broken s page image t.image t.keeps is)) (broken quiet t.image t.shows)
