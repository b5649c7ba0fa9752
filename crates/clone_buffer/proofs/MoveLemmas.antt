-- A buffer stands, whatever is done to a frame that leaves its page as it is.
use Rattle.std.proofs.Common.{◌≡◌, ◌<◌, ◌&&◌, ◌==◌, ◌-◌, ℕ, Bool, true, false, List, length, refl, sym, ap, subst, ◌∙◌, Option, Some, None, Ok, Err, Result, MatchOption, if◌then◌else◌}
use Rattle.clone_buffer.proofs.Common.{DiskImage, Window, Frame, Unused, PageName, FetchRefusal, frame_at, is_fresh, holder, touched, freshened, next_use, Frames, IsPool, IsFrameFor, used, with_frame, Buffered, Beside, frame_of, IsKeptPage, IsKept}
use Rattle.std.proofs.lemmas.List.{length-set}
use Rattle.clone_pool.specs.Frames.{pinned, unpinned}
use Rattle.clone_pool.specs.Pool.{Freshens, TakesFrame, with_fresh}
use Rattle.clone_buffer.specs.Keeping.{Stands}
use Rattle.clone_buffer.proofs.PageLemmas.{like_page}
use Rattle.clone_buffer.proofs.FrameLemmas.{holder_name, no_name, counted, Becomes, set_becomes, moved, held_on}
use Rattle.clone_buffer.proofs.FetchLemmas.{makes_way}

-- Where each image that a disk may tell keeps one buffer, if it keeps the other, it stands over the disk.
pub stands_by : (v w : Buffered) (beside : Beside) (told : Option DiskImage) → ((m : DiskImage) → IsKept v beside m → IsKept w beside m) → Stands v beside told → Stands w beside told
stands_by v w beside None kept st = tt
stands_by v w beside (Some m) kept st = kept m st

-- The log's floor rose.
pub stands_raised : (v : Buffered) (beside : Beside) (told : Option DiskImage) (window : Window) → Stands v beside told → Stands (record v { ring = window }) beside told
stands_raised v beside told window st = stands_by v (record v { ring = window }) beside told (λ m k. record { right = k.right; page = k.page }) st

module _ (v : Buffered) (beside : Beside) (told : Option DiskImage) (at : ℕ) (p : IsPool v.pool) (low : at < length v.pool.frames) where
  abbrev f : Frame
  f = frame_at v.pool.frames at

  to : (change : Frame → Frame) → Becomes v.pool.frames (with_frame at change v.pool).frames at (change f)
  to change = set_becomes v.pool.frames (with_frame at change v.pool).frames at (change f) low refl

  -- A pin more.
  pub stands_pinned : IsPool (with_frame at pinned v.pool) → Stands v beside told → Stands (record v { pool = with_frame at pinned v.pool }) beside told
  stands_pinned q st = stands_by v (record v { pool = with_frame at pinned v.pool }) beside told (λ m k. record {
    right = k.right;
    page = λ s n. held_on v.pool (with_frame at pinned v.pool) at p q (pinned f) (to pinned) (IsKeptPage v.log beside m s n) (IsKeptPage v.log beside m s n) (record { space = s; number = n }) refl
        (λ _ had. like_page v.log beside m s n f (pinned f).pins f.last_use had) (λ _ o had. had) (k.page s n);
  }) st

  -- A pin less: a frame with its page, or without a new one.

  first_true : (a b : Bool) → (a && b) ≡ true → a ≡ true
  first_true true b is = refl
  first_true false b is = is

  abbrev less : Bool → Frame
  less last = if last then record f { content = Unused; pins = 0; last_use = 0 } else record f { pins = f.pins - 1 }

  pub stands_unpinned : IsPool (with_frame at unpinned v.pool) → Stands v beside told → Stands (record v { pool = with_frame at unpinned v.pool }) beside told
  stands_unpinned q st = stands_by v (record v { pool = with_frame at unpinned v.pool }) beside told (λ m k. record {
    right = k.right;
    page = λ s n. by m s n (is_fresh f.content && (f.pins == 1)) refl (k.page s n);
  }) st
    where
      by : (m : DiskImage) (s n : ℕ) (last : Bool) → (is_fresh f.content && (f.pins == 1)) ≡ last → IsKeptPage v.log beside m s n (frame_of v.pool.frames s n) → IsKeptPage v.log beside m s n (frame_of (with_frame at unpinned v.pool).frames s n)
      by m s n true is had =
          let g : unpinned f ≡ less true = ap less is in
          let new : counted f ≡ None = ap (λ (b : Bool). if b then None else Some f) (first_true _ _ is) in
          let Kept : Option Frame → Type 0 = IsKeptPage v.log beside m s n in
          moved v.pool (with_frame at unpinned v.pool) at p q (less true) (subst (Becomes v.pool.frames (with_frame at unpinned v.pool).frames at) g (to unpinned)) Kept Kept (record { space = s; number = n })
          (λ _ has _. absurd (no_name _ has)) (λ _ _ had. subst Kept new had) (λ _ has _. absurd (no_name _ has)) (λ _ o had. had) had
      by m s n false is had =
          let g : unpinned f ≡ less false = ap less is in
          let Kept : Option Frame → Type 0 = IsKeptPage v.log beside m s n in
          held_on v.pool (with_frame at unpinned v.pool) at p q (less false) (subst (Becomes v.pool.frames (with_frame at unpinned v.pool).frames at) g (to unpinned)) Kept Kept (record { space = s; number = n }) refl
          (λ _ had. like_page v.log beside m s n f (f.pins - 1) f.last_use had) (λ _ o had. had) had

-- A frame was taken for a new page.
module _ (v : Buffered) (new : Frames) (beside : Beside) (target : PageName) (p : IsPool v.pool) (q : IsPool new) where
  abbrev was : ℕ → Frame
  was at = frame_at v.pool.frames at

  -- each page is kept in its frame
  abbrev AllKept : DiskImage → Type 0
  AllKept m = (s n : ℕ) → IsKeptPage v.log beside m s n (frame_of new.frames s n)

  taken : (at : ℕ) → IsFrameFor target v.pool.frames at → new ≡ with_fresh target at v.pool → (m : DiskImage) → IsKept v beside m → AllKept m
  taken at for is m k s n =
      let f : Frame = freshened target (next_use v.pool.uses) (was at) in
      let to = set_becomes v.pool.frames new.frames at f for.within (ap (λ (w : Frames). w.frames) is) in
      let gone = makes_way v beside m new target p q k at for.free s n in
      moved v.pool new at p q f to (IsKeptPage v.log beside m s n) (IsKeptPage v.log beside m s n) (record { space = s; number = n }) (λ _ _ had. gone had) (λ _ _ had. gone had) (λ _ _ had. had) (λ _ o had. had) (k.page s n)

  hit : (at : ℕ) → holder v.pool.frames target ≡ Some at → new ≡ used at (with_frame at pinned v.pool) → (m : DiskImage) → IsKept v beside m → AllKept m
  hit at held is m k s n =
      held_on v.pool new at p q f to (IsKeptPage v.log beside m s n) (IsKeptPage v.log beside m s n) (record { space = s; number = n }) refl
      (λ _ had. like_page v.log beside m s n (was at) (pinned (was at)).pins (next_use v.pool.uses) had) (λ _ o had. had) (k.page s n)
    where
      mid : List Frame
      mid = (with_frame at pinned v.pool).frames

      low : at < length v.pool.frames
      low = (holder_name v.pool.frames target at held).0

      f : Frame
      f = touched (next_use v.pool.uses) (pinned (was at))

      pin : Becomes v.pool.frames mid at (pinned (was at))
      pin = set_becomes v.pool.frames mid at (pinned (was at)) low refl

      touch : Becomes mid new.frames at (touched (next_use v.pool.uses) (frame_at mid at))
      touch = set_becomes mid new.frames at (touched (next_use v.pool.uses) (frame_at mid at)) (subst (λ (n : ℕ). at < n) (sym (length-set v.pool.frames at (pinned (was at)))) low) (ap (λ (w : Frames). w.frames) is)

      to : Becomes v.pool.frames new.frames at f
      to = record { this = touch.this ∙ ap (touched (next_use v.pool.uses)) pin.this; others = λ other apart. touch.others other apart ∙ pin.others other apart }

  -- a buffer over a disk stands with a new page
  pub stands_fresh : (told : Option DiskImage) (result : Result ℕ FetchRefusal) → Freshens target v.pool new result → Stands v beside told → Stands (record v { pool = new }) beside told
  stands_fresh told result f st = stands_by v (record v { pool = new }) beside told (λ m k. record { right = k.right; page = kept m k }) st
    where
      kept_taken : (r : Result ℕ FetchRefusal) → TakesFrame target v.pool new r → (m : DiskImage) → IsKept v beside m → AllKept m
      kept_taken (Ok at) t m k = taken at t.0 t.1 m k
      kept_taken (Err refusal) t m k = λ s n. subst (λ (w : Frames). IsKeptPage v.log beside m s n (frame_of w.frames s n)) (sym t.2) (k.page s n)

      by : (found : Option ℕ) → holder v.pool.frames target ≡ found → MatchOption found (TakesFrame target v.pool new result) (λ at. (result ≡ Ok at) × (new ≡ used at (with_frame at pinned v.pool))) → (m : DiskImage) → IsKept v beside m → AllKept m
      by None none f m k = kept_taken result f m k
      by (Some at) is f m k = hit at is f.1 m k

      kept : (m : DiskImage) → IsKept v beside m → AllKept m
      kept m k = by (holder v.pool.frames target) refl f m k
