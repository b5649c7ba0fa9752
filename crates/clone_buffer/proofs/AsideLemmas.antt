-- A buffer of which a frame is set aside for a page, or is so no more.
use Rattle.std.proofs.Common.{◌≡◌, ◌≢◌, ◌<◌, ◌⊎◌, inl, inr, ℕ, List, length, set, refl, sym, ap, subst, ◌∙◌, Option, Some, None, Result, Ok, Err, MatchOption, IsSome, IsTrue}
use Rattle.clone_buffer.proofs.Common.{cases_eq, get_or-set_same, get_or-set_other, DiskImage, Image, replayed, Content, Unused, Fresh, Loading, Frame, PageName, FetchRefusal, no_frame, frame_at, name_of, holder, loader, loading_of, Frames, IsPool, IsVictim, used, with_frame, Buffered, IsBuffer, Shown, Shows, Beside, IsKeptPage}
use Rattle.clone_image.specs.Image.{page_of}
use Rattle.clone_pool.specs.Frames.{left_in, emptied, aside_for, discarded}
use Rattle.clone_pool.specs.declared.frame.Content.TheVariants.{Held}
use Rattle.clone_pool.specs.declared.pool.FetchRefusal.TheVariants.{PoolFull, DiskFault}
use Rattle.clone_pool.specs.Pool.{Fetches, Misses, discarded_at}
use Rattle.clone_pool.proofs.ClaimLemmas.{loader_at, loading_holds_none}
use Rattle.clone_pool.proofs.FrameLemmas.{going_parts}
use Rattle.clone_buffer.specs.Keeping.{Stands}
use Rattle.clone_buffer.proofs.FetchLemmas.{makes_way}
use Rattle.clone_buffer.proofs.FrameLemmas.{no_name, set_becomes, moved}
use Rattle.clone_buffer.proofs.MoveLemmas.{stands_by}

-- frames show their pages still where the one that changed does
shown_set : (image : Image) (frames : List Frame) (at : ℕ) (f : Frame) → at < length frames → Shows image frames → Shown image f.content f.page → Shows image (set frames at f)
shown_set image frames at f low shows shown other = by (cases_eq other at)
  where
    by : (other ≡ at) ⊎ (other ≢ at) → Shown image (frame_at (set frames at f) other).content (frame_at (set frames at f) other).page
    by (inl same) = subst (λ (g : Frame). Shown image g.content g.page) (sym (ap (frame_at (set frames at f)) same ∙ get_or-set_same frames at f no_frame low)) shown
    by (inr apart) = subst (λ (g : Frame). Shown image g.content g.page) (sym (get_or-set_other frames at other f no_frame apart)) (shows other)

with_pool : (v : Buffered) (new : Frames) → IsBuffer v → (IsTrue v.right → Shows (replayed v.log) new.frames) → IsBuffer (record v { pool = new })
with_pool v new b shows = record { bytes = b.bytes; end = b.end; below = b.below; spelled = b.spelled; shows = shows }

-- A FETCH THAT WAS REFUSED leaves a frame without a page, or set aside as it was.
left_shown : (image : Image) (content : Content) (page bytes : List ℕ) → Shown image content page → Shown image (left_in content) bytes
left_shown image Unused page bytes shown = tt
left_shown image (Fresh name) page bytes shown = tt
left_shown image (Held name) page bytes shown = tt
left_shown image (Loading name) page bytes shown = shown

pub buffer_refused : (v : Buffered) (new : Frames) (target : PageName) (refusal : FetchRefusal) → IsBuffer v → Fetches target v.pool new (Err refusal) → IsBuffer (record v { pool = new })
buffer_refused v new target refusal b fetched = by (holder v.pool.frames target) refusal fetched
  where
    misses : (e : FetchRefusal) → Misses target v.pool new (Err e) → IsBuffer (record v { pool = new })
    misses (PoolFull frames) m = subst (λ (w : Frames). IsBuffer (record v { pool = w })) (sym m.2) b
    misses DiskFault m =
        let f : Frame = frame_at v.pool.frames m.0 in
        let empties = m.1.1 in
        with_pool v new b (λ right. subst (Shows (replayed v.log)) (sym empties.frames)
        (shown_set (replayed v.log) v.pool.frames m.0 (emptied empties.bytes f) m.1.0.within (b.shows right) (left_shown (replayed v.log) f.content f.page empties.bytes (b.shows right m.0))))

    by : (o : Option ℕ) (e : FetchRefusal) → MatchOption o (Misses target v.pool new (Err e)) (λ at. (◌≡◌ {A = Result ℕ FetchRefusal} (Err e) (Ok at)) × (new ≡ used at v.pool)) → IsBuffer (record v { pool = new })
    by None e m = misses e m
    by (Some at) e hit = absurd (let is = hit.0 in cc)

-- A frame is set aside.
module _ (v : Buffered) (page : PageName) (at : ℕ) (victim : IsVictim v.pool.frames at) where
  abbrev aside : Frames
  aside = with_frame at (aside_for page) v.pool

  abbrev f : Frame
  f = frame_at v.pool.frames at

  pub buffer_aside : IsBuffer v → (IsTrue v.right → IsSome (page_of (replayed v.log) page.space page.number)) → IsBuffer (record v { pool = aside })
  buffer_aside b there = with_pool v aside b (λ right. shown_set (replayed v.log) v.pool.frames at (aside_for page f) victim.within (b.shows right) (there right))

  pub stands_aside : IsPool v.pool → IsPool aside → (beside : Beside) (told : Option DiskImage) → Stands v beside told → Stands (record v { pool = aside }) beside told
  stands_aside p q beside told st = stands_by v (record v { pool = aside }) beside told (λ m k. record {
    right = k.right;
    page = λ s n. moved v.pool aside at p q (aside_for page f) (set_becomes v.pool.frames aside.frames at (aside_for page f) victim.within refl) (IsKeptPage v.log beside m s n) (IsKeptPage v.log beside m s n) (record { space = s; number = n })
        (λ _ has _. absurd (no_name _ has)) (λ _ _ had. makes_way v beside m aside page p q k at (going_parts f victim.free).0 s n had) (λ _ has _. absurd (no_name _ has)) (λ _ o had. had) (k.page s n);
  }) st

-- One that was set aside is so no more.
module _ (v : Buffered) (page : PageName) where
  abbrev given : Option ℕ → Frames
  given o = discarded_at o v.pool

  pub buffer_given : IsBuffer v → (o : Option ℕ) → loader v.pool.frames page ≡ o → IsBuffer (record v { pool = given o })
  buffer_given b None is = with_pool v v.pool b b.shows
  buffer_given b (Some at) is = with_pool v (given (Some at)) b (λ right. shown_set (replayed v.log) v.pool.frames at (discarded (frame_at v.pool.frames at)) (loader_at v.pool.frames page at is).0 (b.shows right) tt)

  pub stands_given : IsPool v.pool → (beside : Beside) (told : Option DiskImage) → (o : Option ℕ) → loader v.pool.frames page ≡ o → IsPool (given o) → Stands v beside told → Stands (record v { pool = given o }) beside told
  stands_given p beside told None is q st = stands_by v (record v { pool = v.pool }) beside told (λ m k. record { right = k.right; page = k.page }) st
  stands_given p beside told (Some at) is q st = stands_by v (record v { pool = given (Some at) }) beside told (λ m k. record {
    right = k.right;
    page = λ s n. moved v.pool (given (Some at)) at p q (discarded f) (set_becomes v.pool.frames (given (Some at)).frames at (discarded f) found.0 refl) (IsKeptPage v.log beside m s n) (IsKeptPage v.log beside m s n) (record { space = s; number = n })
        (λ _ has _. absurd (no_name _ has)) (λ had _ _. absurd (no_name _ (sym none ∙ had))) (λ _ has _. absurd (no_name _ has)) (λ _ o had. had) (k.page s n);
  }) st
    where
      f : Frame
      f = frame_at v.pool.frames at

      found : (at < length v.pool.frames) × (loading_of f ≡ Some page)
      found = loader_at v.pool.frames page at is

      none : name_of f ≡ None
      none = loading_holds_none f.content page found.1
