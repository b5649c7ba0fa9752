-- A new buffer over a blank disk is kept, and where a buffer is kept, the disk's page with its redo is the frame.
use Rattle.std.proofs.Common.{◌≡◌, ◌&&◌, ℕ, Bool, true, false, List, [], replicate, refl, sym, ap, subst, ◌∙◌, arith, Option, Some, None, option_and_then, slice_get, IsSome, IsTrue}
use Rattle.clone_buffer.proofs.Common.{false≢true, get_or-replicate, length-replicate, get-empty, nat_cmp, DiskImage, Record, redone, HasSpace, Rule, PageWorld, Frame, PageName, no_frame, name_of, holder, Frames, Buffered, Beside, frame_in, frame_of, is_open, has_space, engine_with, IsKeptPage, IsKept}
use Rattle.std.specs.FinMap as finite
use Rattle.clone_outside.specs.Disk.{blank, page_of}
use Rattle.clone_outside.specs.declared.disk.Held as held
use Rattle.clone_law.specs.Machine.{Idle}
use Rattle.clone_law.proofs.EventLemmas.{nothing_kept, clean_is_disk, dirty_is_redone}
use Rattle.clone_buffer.specs.OnePage.{at_rest, standing_in}
use Rattle.clone_buffer.specs.Keeping.{DiskIsFrames, CopyKept, CopyKeeps}
use Rattle.clone_buffer.proofs.PageLemmas.{world, spaced}
use Rattle.clone_buffer.proofs.FrameLemmas.{holder_name, no_name}

-- frames without pages hold none
holder-unused : (n : ℕ) (page : PageName) → holder (replicate n no_frame) page ≡ None
holder-unused n page = by (holder (replicate n no_frame) page) refl
  where
    by : (o : Option ℕ) → holder (replicate n no_frame) page ≡ o → o ≡ None
    by None is = refl
    by (Some at) is =
        let found = holder_name (replicate n no_frame) page at is in
        absurd (no_name page (sym (ap name_of (get_or-replicate n at no_frame no_frame (omega (arith, found.0, length-replicate n no_frame)))) ∙ found.1))

-- a page of a blank disk, before the log begins
blank_page : (space number : ℕ) → IsKeptPage [] at_rest blank space number None
blank_page space number =
    let none : finite.get blank.spaces space ≡ None = get-empty nat_cmp space in
    let open_in : Option (List held.Held) → Bool = λ o. is_open (option_and_then (λ pages. slice_get pages number) o) && false in
    let w : Option (List held.Held) → PageWorld = λ o. world Idle (record (engine_with [] at_rest blank space number None) { disk = standing_in o number; writing = open_in o }) in
    record {
      rule = subst (λ (o : Option (List held.Held)). Rule space number (w o)) (sym none) (nothing_kept space number);
      dirty = λ t. absurd (false≢true (sym (ap open_in none) ∙ t));
      opened = λ t. absurd (false≢true (sym (ap open_in none) ∙ t));
      flights = (λ t. t, λ t. t);
    }

pub new_stands : (v : Buffered) (n : ℕ) → v.log ≡ [] → IsTrue v.right → v.pool ≡ record { frames = replicate n no_frame; uses = 0; missed = None } → IsKept v at_rest blank
new_stands v n log right pool = record {
  right = right;
  page = λ space number. subst (λ (l : List (List Record)). IsKeptPage l at_rest blank space number (frame_of v.pool.frames space number)) (sym log)
      (subst (λ (o : Option Frame). IsKeptPage [] at_rest blank space number o) (sym (ap (λ (w : Frames). frame_of w.frames space number) pool ∙ ap (frame_in (replicate n no_frame)) (holder-unused n (record { space = space; number = number })))) (blank_page space number));
}

closed_page : (writing there : Bool) → writing ≡ false → (writing && there) ≡ false
closed_page true there is = absurd (false≢true (sym is))
closed_page false there is = refl

-- disk page with its redo is the frame
module _ (v : Buffered) (beside : Beside) (m : DiskImage) (k : IsKept v beside m) where
  with_frame : (space number : ℕ) (frame : Frame) → frame_of v.pool.frames space number ≡ Some frame → IsKeptPage v.log beside m space number (Some frame)
  with_frame space number frame is = subst (IsKeptPage v.log beside m space number) is (k.page space number)

  opened : (space number : ℕ) → is_open (page_of m space number) ≡ true → HasSpace (redone space number v.log) → (frame : Frame) × ((frame_of v.pool.frames space number ≡ Some frame) × IsSome frame.oldest)
  opened space number is has = by (frame_of v.pool.frames space number) refl (k.page space number)
    where
      writing : (is_open (page_of m space number) && has_space (redone space number v.log)) ≡ true
      writing = ap (λ (b : Bool). b && has_space (redone space number v.log)) is ∙ spaced (redone space number v.log) has

      by : (o : Option Frame) → frame_of v.pool.frames space number ≡ o → IsKeptPage v.log beside m space number o → (frame : Frame) × ((frame_of v.pool.frames space number ≡ Some frame) × IsSome frame.oldest)
      by None is page = absurd (false≢true (page.dirty writing))
      by (Some frame) is page = (frame, (is, page.dirty writing))

  pub disk_is_frames : DiskIsFrames v m
  disk_is_frames = record {
    clean = λ space number frame is closed old. clean_is_disk space number (engine_with v.log beside m space number (Some frame)) frame.page (with_frame space number frame is).rule.engine (closed_page _ (has_space (redone space number v.log)) closed) refl old;
    dirty = λ space number frame oldest is closed old. dirty_is_redone space number (engine_with v.log beside m space number (Some frame)) frame.page oldest (with_frame space number frame is).rule.engine (closed_page _ (has_space (redone space number v.log)) closed) refl old;
    open_framed = opened;
  }

-- What a clone has of each page.

pub copy_kept : CopyKept
copy_kept v beside m space number k = (k.page space number).rule

pub copy_keeps : CopyKeeps
copy_keeps v beside m copies k all = record {
  right = k.right;
  page = λ space number. record { rule = record { engine = (k.page space number).rule.engine; copy = all space number }; dirty = (k.page space number).dirty; opened = (k.page space number).opened; flights = (k.page space number).flights };
}
