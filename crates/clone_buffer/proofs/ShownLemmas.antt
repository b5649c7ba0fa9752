-- What a frame shows of the page that it has.
use Rattle.std.proofs.Common.{◌≡◌, ◌<◌, ◌^◌, ℕ, Bool, true, false, List, slice_get, refl, sym, ap, subst, ◌∙◌, Option, Some, None, option_and_then, IsSome}
use Rattle.clone_buffer.proofs.Common.{Frame, frame_at, holder, frame_in, frame_of, Shows, false≢true, true≢false, Record, Image, replayed, stands, redone, replayed_is_redone, ends, Content, Unused, Fresh, Loading, PageName, name_in, is_fresh, Shown}
use Rattle.std.specs.FinMap as finite
use Rattle.clone_image.specs.Image.{page_of}
use Rattle.clone_image.specs.Redone.{standing_at, standing_in, standing_of}
use Rattle.clone_pool.specs.declared.frame.Content.TheVariants.{Held}
use Rattle.clone_buffer.proofs.FrameLemmas.{holder_name, some_name, no_name, frame_in-new}

-- a page that the image has stands by the log
pub stands_there : (log : List (List Record)) (space number : ℕ) (page : List ℕ) → ends log < 2 ^ 64 → page_of (replayed log) space number ≡ Some page → redone space number log ≡ stands page
stands_there log space number page small is = sym (replayed_is_redone log space number small) ∙ by (finite.get (replayed log) space) refl is
  where
    by : (o : Option (List (List ℕ))) → finite.get (replayed log) space ≡ o → page_of (replayed log) space number ≡ Some page → standing_of (replayed log) space number ≡ stands page
    by None none is = let no = sym (ap (λ (o : Option (List (List ℕ))). option_and_then (λ pages. slice_get pages number) o) none) ∙ is in absurd (cc)
    by (Some pages) some is =
        let found : slice_get pages number ≡ Some page = sym (ap (λ (o : Option (List (List ℕ))). option_and_then (λ ps. slice_get ps number) o) some) ∙ is in
        ap (λ (o : Option (List (List ℕ))). standing_in o number) some ∙ ap standing_at found

module _ (image : Image) (bytes : List ℕ) (page : PageName) where
  -- a frame that has a page which isn't new shows it exactly where it is the image's
  pub shown_held : (content : Content) → Shown image content bytes → name_in content ≡ Some page → is_fresh content ≡ false → page_of image page.space page.number ≡ Some bytes
  shown_held Unused shown is old = absurd (no_name page is)
  shown_held (Fresh name) shown is old = absurd (true≢false old)
  shown_held (Loading name) shown is old = absurd (no_name page is)
  shown_held (Held name) shown is old = subst (λ (n : PageName). page_of image n.space n.number ≡ Some bytes) (some_name name page is) shown

  pub shown_named : (content : Content) → name_in content ≡ Some page → is_fresh content ≡ false → page_of image page.space page.number ≡ Some bytes → Shown image content bytes
  shown_named Unused is old shows = tt
  shown_named (Loading name) is old shows = absurd (no_name page is)
  shown_named (Fresh name) is old shows = absurd (true≢false old)
  shown_named (Held name) is old shows = subst (λ (n : PageName). page_of image n.space n.number ≡ Some bytes) (sym (some_name name page is)) shows

  -- a page that is there isn't new
  pub not_fresh : (content : Content) → Shown image content bytes → name_in content ≡ Some page → IsSome (page_of image page.space page.number) → is_fresh content ≡ false
  not_fresh Unused shown is there = refl
  not_fresh (Fresh name) shown is there =
      let none : page_of image page.space page.number ≡ None = subst (λ (n : PageName). page_of image n.space n.number ≡ None) (some_name name page is) shown.0 in
      absurd (false≢true (subst IsSome none there))
  not_fresh (Held name) shown is there = refl
  not_fresh (Loading name) shown is there = refl

  pub shown_there : (content : Content) → Shown image content bytes → name_in content ≡ Some page → IsSome (page_of image page.space page.number) → page_of image page.space page.number ≡ Some bytes
  shown_there content shown is there = shown_held content shown is (not_fresh content shown is there)

-- a page that isn't there has no frame but that of a new one
module _ (image : Image) (frames : List Frame) (space number : ℕ) (shows : Shows image frames) (none : page_of image space number ≡ None) where
  abbrev page : PageName
  page = record { space = space; number = number }

  pub fresh_absent : (at : ℕ) → holder frames page ≡ Some at → is_fresh (frame_at frames at).content ≡ true
  fresh_absent at held = by (is_fresh (frame_at frames at).content) refl
    where
      by : (t : Bool) → is_fresh (frame_at frames at).content ≡ t → is_fresh (frame_at frames at).content ≡ true
      by true is = is
      by false is =
          let shown = shown_held image (frame_at frames at).page page (frame_at frames at).content (shows at) (holder_name frames page at held).1 is in
          absurd (false≢true (subst IsSome (sym shown ∙ none) refl))

  pub frame_of_absent : frame_of frames space number ≡ None
  frame_of_absent = by (holder frames page) refl
    where
      by : (o : Option ℕ) → holder frames page ≡ o → frame_of frames space number ≡ None
      by None is = ap (frame_in frames) is
      by (Some at) is = ap (frame_in frames) is ∙ frame_in-new frames at (fresh_absent at is)
