-- The page behind a page, as an overlay shows it, and how many pages a space has.
use Rattle.std.proofs.Common.{◌≡◌, ◌==◌, ◌<◌, ◌≤◌, ◌-◌, ℕ, List, [], length, get_or, take, refl, sym, ap, subst, ◌∙◌, arith, Bool, cond, Some, None, inl, inr}
use Rattle.std.specs.Prelude.{nat_lt, unwrap_or, IfSome}
use Rattle.std.specs.declared.option.Option.{Option}
use Rattle.std.specs.FinMap as finite
use Rattle.std.proofs.lemmas.Bool.{cases_lt, lt-ltb, le-ltb}
use Rattle.std.proofs.lemmas.List.{drop-replicate, take-replicate}
use Rattle.std.proofs.lemmas.Option.{none-some}
use Rattle.clone_page.specs.Bytes.{field}
use Rattle.clone_page.specs.Header.{zero_page, kind_of, next_of, no_page}
use Rattle.clone_page.proofs.Parts.{field-part}
use Rattle.clone_row.specs.Chains.{behind}
use Rattle.clone_outside.specs.Disk.{DiskImage}
use Rattle.clone_image.specs.Image.{Image, page_of}
use Rattle.clone_image.specs.Redone.{past_end, stands}
use Rattle.clone_overlay.specs.Answers.{GivesMisplaced}
use Rattle.clone_overlay.specs.Covers.{Cover, Overlay}
use Rattle.clone_overlay.specs.Images.{image_of, pages_in, IsQuiet}
use Rattle.clone_overlay.specs.Shown.{leaf_over, standing_over, Fits, Shows, ForBase, IsMisplaced}
use Rattle.clone_overlay.proofs.Bases.{read_on}
use Rattle.clone_overlay.proofs.CoverLemmas.{standing_held, standing_kept}
use Rattle.clone_overlay.proofs.FetchLemmas.{gives_misplaced}
use Rattle.clone_overlay.proofs.OverlayImageLemmas.{page_stands, page_standing, page_past, page_nowhere}
use Rattle.clone_recover.specs.Chains.{next_in}
use Rattle.clone_recover.specs.Damage.{ForImage}
use Rattle.clone_recover.specs.Walks.{SeesBehind, held, unused, read}

-- an unused page ends its chain
no_kind : (page : List ℕ) → kind_of page ≡ 0 → behind page ≡ None
no_kind page is = ap (λ (k : ℕ). cond (k == 0) None (cond (next_of page == no_page) None (Some (next_of page)))) is

zero_kind : kind_of zero_page ≡ 0
zero_kind = field-part 24 2 2 zero_page (omega arith) ∙ ap (field 0 2) (ap (take 2) (drop-replicate 24 4096 0) ∙ take-replicate 2 (4096 - 24) 0 (omega arith))

-- the page behind, by what page is there
by_page : (image : Image) (s n : ℕ) (o : Option (List ℕ)) → page_of image s n ≡ o → next_in image s n ≡ behind (unwrap_or o [])
by_page image s n o is = ap (λ (x : Option (List ℕ)). behind (unwrap_or x [])) is

by_none : (image : Image) (s n : ℕ) → None ≡ page_of image s n → None ≡ next_in image s n
by_none image s n none = sym (by_page image s n None (sym none) ∙ no_kind [] refl)

pub nowhere_behind : (told : Option DiskImage) (overlay : Overlay) (s n : ℕ) → finite.get overlay s ≡ None → ForImage told overlay (λ m image. None ≡ next_in image s n)
nowhere_behind None overlay s n none = tt
nowhere_behind (Some m) overlay s n none = λ quiet image shows. by_none image s n (page_nowhere (image_of m) image overlay s n none shows)

module _ (m : DiskImage) (image : Image) (overlay : Overlay) (s n : ℕ) (cover : Cover) (there : finite.get overlay s ≡ Some cover) (quiet : IsQuiet m) (shows : Shows (image_of m) image overlay) where
  base : List (List ℕ)
  base = pages_in (image_of m) s

  fits : Fits (pages_in (image_of m) s) cover
  fits = subst (λ (o : Option Cover). IfSome o (Fits (pages_in (image_of m) s))) there (shows.fits s)

  stands_so : (page : List ℕ) → standing_over (pages_in (image_of m) s) (Some cover) n ≡ stands page → behind page ≡ next_in image s n
  stands_so page is = sym (by_page image s n (Some page) (page_stands image s n ∙ ap page_standing (shows.standings s n ∙ ap (λ o. standing_over (pages_in (image_of m) s) o n) there ∙ is)))

  past : cover.count ≤ n → None ≡ next_in image s n
  past high = by_none image s n (page_past (image_of m) image overlay s n cover there high shows)

  held_low : (page : List ℕ) → finite.get cover.leaves n ≡ Some page → n < cover.count
  held_low page is = elim (cases_lt n cover.count) [ inl low ↦ low | inr high ↦ absurd (none-some page (sym (fits.within n high) ∙ is)) ]

  kept_there : n < cover.kept → n < length (pages_in (image_of m) s)
  kept_there low = elim fits.kept [ inl none ↦ absurd (omega (arith, low, none)) | inr all ↦ omega (arith, low, all) ]

  -- an unused page of a longer or a new space
  filled : n < cover.count → cover.kept ≤ n → finite.get cover.leaves n ≡ None → standing_over (pages_in (image_of m) s) (Some cover) n ≡ stands zero_page
  filled low high free =
      ap (λ (b : Bool). cond b (stands (leaf_over (pages_in (image_of m) s) cover n)) past_end) (lt-ltb n cover.count low)
      ∙ ap (λ (o : Option (List ℕ)). stands (unwrap_or o (cond (nat_lt n cover.kept) (get_or (pages_in (image_of m) s) n []) zero_page))) free
      ∙ ap (λ (b : Bool). stands (cond b (get_or (pages_in (image_of m) s) n []) zero_page)) (le-ltb n cover.kept high)

  sees : (next : Option ℕ) → SeesBehind (Some m) s n cover next → next ≡ next_in image s n
  sees next (held page is e) = e ∙ stands_so page (standing_held (pages_in (image_of m) s) cover n page (held_low page is) is)
  sees next (unused free high e) = e ∙ elim (cases_lt n cover.count) [
    | inl low ↦ sym (no_kind zero_page zero_kind) ∙ stands_so zero_page (filled low high free)
    | inr out ↦ past out
  ]
  sees next (read free low r) =
      let count : n < cover.count = omega (arith, low, fits.low) in
      r.is ∙ stands_so r.page (standing_kept (pages_in (image_of m) s) cover n count low free ∙ ap stands (sym (read_on m s n r.page quiet r.given (kept_there low))))

pub sees_behind : (told : Option DiskImage) (overlay : Overlay) (s n : ℕ) (cover : Cover) (next : Option ℕ) → finite.get overlay s ≡ Some cover → SeesBehind told s n cover next → ForImage told overlay (λ m image. next ≡ next_in image s n)
sees_behind None overlay s n cover next there saw = tt
sees_behind (Some m) overlay s n cover next there saw = λ quiet image shows. sees m image overlay s n cover there quiet shows next saw

-- a page that isn't well formed
pub sees_misplaced : (told : Option DiskImage) (overlay : Overlay) (s n : ℕ) (cover : Cover) → finite.get overlay s ≡ Some cover → GivesMisplaced told s n cover → ForBase told overlay (IsMisplaced s n)
sees_misplaced told overlay s n cover there gives = gives_misplaced told s n overlay (record { cover = cover; there = there; gives = gives })
