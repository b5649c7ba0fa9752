-- A page that is read and held shows as before.
use Rattle.std.proofs.Common.{◌≡◌, ◌==◌, ◌<◌, ◌≤◌, ℕ, List, [], length, get_or, refl, sym, ap, subst, ◌∙◌, arith, Bool, true, false, cond, Some, None, IsSome, inl, inr}
use Rattle.std.specs.Prelude.{nat_lt, unwrap_or, IfSome, option_and_then, slice_get}
use Rattle.std.specs.declared.option.Option.{Option}
use Rattle.std.specs.FinMap as finite
use Rattle.std.proofs.lemmas.Bool.{cases_lt, lt-ltb, le-ltb}
use Rattle.std.proofs.lemmas.Bool.Decides.{eqb_tells}
use Rattle.std.proofs.lemmas.Option.{slice_get-get_or}
use Rattle.clone_page.specs.Header.{zero_page}
use Rattle.clone_outside.specs.Disk.{DiskImage}
use Rattle.clone_image.specs.Image.{Image, page_of}
use Rattle.clone_image.specs.Redone.{Standing, stands, past_end, standing_of}
use Rattle.clone_overlay.specs.Answers.{Fetched, stays, reads, fills, FetchedIn, nowhere, within, HasMisplaced}
use Rattle.clone_overlay.specs.Covers.{Cover, Overlay, holding}
use Rattle.clone_overlay.specs.Images.{image_of, pages_in, IsQuiet}
use Rattle.clone_overlay.specs.Shown.{leaf_over, standing_over, Fits, Shows, ShowsSame, ForBase, IsReady, IsMisplaced}
use Rattle.clone_overlay.proofs.Bases.{read_on}
use Rattle.clone_overlay.proofs.CoverLemmas.{standing_held, standing_past, standing_kept, standing_other, fits_holding}
use Rattle.clone_overlay.proofs.Entries.{get_set, get_here}
use Rattle.clone_overlay.proofs.OverlayImageLemmas.{shows_by}

-- a page that counts is one of the base
kept_there : (base : List (List ℕ)) (cover : Cover) (n : ℕ) → n < cover.kept → Fits base cover → n < length base
kept_there base cover n lt fits = elim fits.kept [ inl none ↦ absurd (omega (arith, lt, none)) | inr all ↦ omega (arith, lt, all) ]

-- the page that is held now stood so before
same_standing : (base : List (List ℕ)) (cover : Cover) (k n : ℕ) (page : List ℕ) → (k < cover.count → standing_over base (Some cover) k ≡ stands page) → standing_over base (Some (holding k page cover)) n ≡ standing_over base (Some cover) n
same_standing base cover k n page was = elim (eqb_tells k n) [
  | inl same ↦ elim (cases_lt n cover.count) [
    | inl low ↦
        standing_held base (holding k page cover) n page low (ap (finite.get (finite.insert cover.leaves k page)) (sym same.1) ∙ get_here cover.leaves k page)
        ∙ sym (was (omega (arith, low, same.1))) ∙ ap (standing_over base (Some cover)) same.1
    | inr past ↦ standing_past base (holding k page cover) n past ∙ sym (standing_past base cover n past)
  ]
  | inr other ↦ standing_other base cover k n page other.0
]

-- an unused page of a longer or a new space
standing_filled : (base : List (List ℕ)) (cover : Cover) (n : ℕ) → n < cover.count → cover.kept ≤ n → finite.get cover.leaves n ≡ None → standing_over base (Some cover) n ≡ stands zero_page
standing_filled base cover n lt past free =
    ap (λ (b : Bool). cond b (stands (leaf_over base cover n)) past_end) (lt-ltb n cover.count lt)
    ∙ ap (λ (o : Option (List ℕ)). stands (unwrap_or o (cond (nat_lt n cover.kept) (get_or base n []) zero_page))) free
    ∙ ap (λ (b : Bool). stands (cond b (get_or base n []) zero_page)) (le-ltb n cover.kept past)

pub ready_cover : (told : Option DiskImage) (s n : ℕ) (old new : Cover) → Fetched told s n old new → n < new.count → IsSome (finite.get new.leaves n)
ready_cover told s n old new (stays held same) = subst (λ (c : Cover). n < c.count → IsSome (finite.get c.leaves n)) (sym same) held
ready_cover told s n old new (reads page low lt free given is) = λ _. subst (λ (c : Cover). IsSome (finite.get c.leaves n)) (sym is) (subst (λ (o : Option (List ℕ)). IsSome o) (sym (get_here old.leaves n page)) refl)
ready_cover told s n old new (fills past lt free is) = λ _. subst (λ (c : Cover). IsSome (finite.get c.leaves n)) (sym is) (subst (λ (o : Option (List ℕ)). IsSome o) (sym (get_here old.leaves n zero_page)) refl)

pub fetched_ready : (told : Option DiskImage) (s n : ℕ) (old new : Overlay) → FetchedIn told s n old new → IsReady new s n
fetched_ready told s n old new (nowhere none same) = subst (λ (o : Option Cover). IfSome o (λ c. n < c.count → IsSome (finite.get c.leaves n))) (sym (ap (λ (o : Overlay). finite.get o s) same ∙ none)) tt
fetched_ready told s n old new (within before after there fetched is) =
    subst (λ (o : Option Cover). IfSome o (λ c. n < c.count → IsSome (finite.get c.leaves n))) (sym (ap (λ (o : Overlay). finite.get o s) is ∙ get_here old s after)) (ready_cover told s n before after fetched)

-- what is known of the cover after a read of a quiet disk
record Kept (base : List (List ℕ)) (old new : Cover) : Type 0 where
  standings : (n : ℕ) → standing_over base (Some new) n ≡ standing_over base (Some old) n
  fits : Fits base new

kept_cover : (m : DiskImage) (s n : ℕ) (old new : Cover) → IsQuiet m → Fits (pages_in (image_of m) s) old → Fetched (Some m) s n old new → Kept (pages_in (image_of m) s) old new
kept_cover m s n old new quiet fits (stays held same) = record {
  standings = λ k. ap (λ (c : Cover). standing_over (pages_in (image_of m) s) (Some c) k) same;
  fits = subst (Fits (pages_in (image_of m) s)) (sym same) fits;
}
kept_cover m s n old new quiet fits (reads page low lt free given is) =
    let base = pages_in (image_of m) s in
    let read = read_on m s n page quiet given (kept_there base old n low fits) in
    record {
      standings = λ k. ap (λ (c : Cover). standing_over base (Some c) k) is ∙ same_standing base old n k page (λ _. standing_kept base old n lt low free ∙ ap stands (sym read));
      fits = subst (Fits base) (sym is) (fits_holding base old n page lt fits);
    }
kept_cover m s n old new quiet fits (fills past lt free is) =
    let base = pages_in (image_of m) s in
    record {
      standings = λ k. ap (λ (c : Cover). standing_over base (Some c) k) is ∙ same_standing base old n k zero_page (λ _. standing_filled base old n lt past free);
      fits = subst (Fits base) (sym is) (fits_holding base old n zero_page lt fits);
    }

same_either : (b : Bool) (p : Standing) → p ≡ cond b p p
same_either true p = refl
same_either false p = refl

pub fetched_shows : (told : Option DiskImage) (s n : ℕ) (old new : Overlay) → FetchedIn told s n old new → ShowsSame told old new
fetched_shows None s n old new fetched = tt
fetched_shows (Some m) s n old new (nowhere none same) = λ quiet image shows. subst (Shows (image_of m) image) (sym same) shows
fetched_shows (Some m) s n old new (within before after there fetched is) = λ quiet image shows.
    let base = image_of m in
    let fits = subst (λ (o : Option Cover). IfSome o (Fits (pages_in base s))) there (shows.fits s) in
    let kept = kept_cover m s n before after quiet fits fetched in
    subst (Shows base image) (sym is)
    (shows_by base image image old (finite.insert old s after) s (Some after) (λ q k. standing_of image q k)
    (get_set old s after)
    (λ q k. same_either (s == q) (standing_of image q k))
    (λ k. shows.standings s k ∙ ap (λ o. standing_over (pages_in base s) o k) there ∙ sym (kept.standings k))
    kept.fits shows)

-- a page that a space has, in its image
there_in : (image : Image) (s n : ℕ) → n < length (pages_in image s) → page_of image s n ≡ Some (get_or (pages_in image s) n [])
there_in image s n lt = at (finite.get image s) lt
  where
    at : (o : Option (List (List ℕ))) → n < length (unwrap_or o []) → option_and_then (λ ps. slice_get ps n) o ≡ Some (get_or (unwrap_or o []) n [])
    at None lt = absurd (omega (arith, lt))
    at (Some pages) lt = slice_get-get_or pages n [] lt

-- what the disk gives is against the format, as the page of its image is
pub gives_misplaced : (told : Option DiskImage) (s n : ℕ) (overlay : Overlay) → HasMisplaced told s n overlay → ForBase told overlay (IsMisplaced s n)
gives_misplaced None s n overlay has = tt
gives_misplaced (Some m) s n overlay has = λ quiet image shows.
    let base = pages_in (image_of m) s in
    let fits = subst (λ (o : Option Cover). IfSome o (Fits base)) has.there (shows.fits s) in
    let read = read_on m s n has.gives.gives.page quiet has.gives.gives.given (kept_there base has.cover n has.gives.kept fits) in
    record {
      page = has.gives.gives.page;
      there = there_in (image_of m) s n (kept_there base has.cover n has.gives.kept fits) ∙ ap (λ p. Some p) (sym read);
      against = has.gives.gives.against;
    }

-- a page that isn't ready is there and isn't held
pub unready : (n count : ℕ) (o : Option (List ℕ)) → ((n < count → IsSome o) → ⊥) → (n < count) × (o ≡ None)
unready n count (Some page) not = absurd (not (λ _. refl))
unready n count None not = elim (cases_lt n count) [ inl low ↦ (low, refl) | inr high ↦ absurd (not (λ low. absurd (omega (arith, low, high)))) ]
