-- How a buffer stands to a disk that tells what it holds.
use Rattle.std.specs.Prelude.{ℕ, ◌≡◌, ◌↔◌, ◌++◌, true, false, List, None, Some, IsTrue, IsSome}
use Rattle.std.specs.declared.option.Option.{Option}
use Rattle.clone_outside.specs.Disk.{DiskImage, ForTold, page_of}
use Rattle.clone_mtr.specs.declared.record.Record.{Record}
use Rattle.clone_image.specs.Redone.{stands, redone, redone_from}
use Rattle.clone_law.specs.Since.{ends}
use Rattle.clone_law.specs.Machine.{HasSpace}
use Rattle.clone_law.specs.Rule.{CopyRule, Rule}
use Rattle.clone_pool.specs.declared.frame.Frame.{Frame}
use Rattle.clone_pool.specs.Frames.{is_begun, counts_as_open}
use Rattle.clone_buffer.specs.Buffered.{Buffered}
use Rattle.clone_buffer.specs.OnePage.{Beside, Copies, engine_with, engine_of, world_with, world_of, frame_of, flush_in, disk_standing, is_open}

-- What the log, the disk, its frame and its flush have of one page.
pub record IsKeptPage (log : List (List Record)) (beside : Beside) (m : DiskImage)
    (space number : ℕ) (frame : Option Frame) : Type 0 where
  -- with what a clone has of it they keep the rule of one page
  pub rule : Rule space number (world_with log beside m space number frame)
  -- where its space is there, it is dirty while its write is open, and a flush of it has begun and
  -- not landed
  pub dirty : (engine_with log beside m space number frame).writing ≡ true
      → IsSome (engine_with log beside m space number frame).oldest
  pub opened : (engine_with log beside m space number frame).writing ≡ true
      → counts_as_open (flush_in frame) ≡ true
  -- its flush has begun exactly where there is an image of it
  pub flights : IsTrue (is_begun (flush_in frame)) ↔ IsSome (beside.image space number)

-- What was read was right, and each page is kept.
pub record IsKept (v : Buffered) (beside : Beside) (m : DiskImage) : Type 0 where
  pub right : IsTrue v.right
  pub page : (space number : ℕ)
      → IsKeptPage v.log beside m space number (frame_of v.pool.frames space number)

abbrev pub Stands : Buffered → Beside → Option DiskImage → Type 0
Stands v beside told = ForTold told (IsKept v beside)

-- DISK PAGE WITH ITS REDO IS THE FRAME
pub record DiskIsFrames (v : Buffered) (m : DiskImage) : Type 0 where
  -- a clean frame has the disk's page, where no write of it is open
  pub clean : (space number : ℕ) (frame : Frame) → frame_of v.pool.frames space number ≡ Some frame
      → is_open (page_of m space number) ≡ false → frame.oldest ≡ None
      → disk_standing m space number ≡ stands frame.page
  -- a dirty one has what the log from its oldest modification on makes of the disk's page
  pub dirty : (space number : ℕ) (frame : Frame) (oldest : ℕ)
      → frame_of v.pool.frames space number ≡ Some frame → is_open (page_of m space number) ≡ false
      → frame.oldest ≡ Some oldest
      → (front rest : List (List Record)) → v.log ≡ front ++ rest → ends front ≡ oldest
      → redone_from oldest space number (disk_standing m space number) rest ≡ stands frame.page
  -- an open page of a space that is there has a frame, and is dirty there
  pub open_framed : (space number : ℕ) → is_open (page_of m space number) ≡ true
      → HasSpace (redone space number v.log)
      → (frame : Frame) × ((frame_of v.pool.frames space number ≡ Some frame) × IsSome frame.oldest)

-- EACH PAGE KEEPS THE RULE, with what a clone has of it.
abbrev pub CopyKept : Type 0
CopyKept =
    (v : Buffered) (beside : Beside) (m : DiskImage) (space number : ℕ) → IsKept v beside m
    → Rule space number (world_of v beside m space number)

-- whatever else a clone has of each page, if it keeps the rule
abbrev pub CopyKeeps : Type 0
CopyKeeps =
    (v : Buffered) (beside : Beside) (m : DiskImage) (copies : Copies) → IsKept v beside m
    → ((space number : ℕ)
    → CopyRule space number (engine_of v beside m space number) (copies space number))
    → IsKept v (record beside { copy = copies }) m
