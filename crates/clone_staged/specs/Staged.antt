-- A recipient's disk on which a clone was laid in stages, and the donor's log at the stop.
use Rattle.std.specs.Prelude.{ℕ, ◌≡◌, ◌<◌, List, length, None}
use Rattle.std.specs.List.{AllByRecursion}
use Rattle.clone_outside.specs.Disk.{DiskImage, with_mark}
use Rattle.clone_outside.specs.Mark.{mark_bytes}
use Rattle.clone_outside.specs.declared.mark.CloneEnd.{CloneEnd}
use Rattle.clone_outside.specs.declared.mark.Mark.TheVariants as mark
use Rattle.clone_mtr.specs.declared.record.Record.{Record}
use Rattle.clone_mtr.specs.Spelling.{log_of}
use Rattle.clone_image.specs.Image.{page_of}
use Rattle.clone_image.specs.Redone.{standing_of}
use Rattle.clone_image.specs.Replay.{IsSpelled, replayed}
use Rattle.clone_contents.specs.Placed.{IsPlaced}
use Rattle.clone_law.specs.Since.{ends, IsAt}
use Rattle.clone_law.specs.Starts.{Gives}
use Rattle.clone_overlay.specs.Images.{redo_space, image_of, IsQuiet}
use Rattle.clone_recover.specs.Reading.{AreOfTables, redo_of}

-- The log ends where the clone does. It has the spellings of mini-transactions that name tables and
-- the system space alone.
pub record IsLogTo (end : CloneEnd) (log : List (List Record)) : Type 0 where
  pub each : AllByRecursion IsSpelled log
  pub tables : AreOfTables log
  pub stop : end.lsn ≡ ends log

-- What is on a disk once the stages of a clone were laid, with the redo from a base on.
pub record IsStaged (base : ℕ) (log : List (List Record)) (m : DiskImage) : Type 0 where
  -- a mini-transaction ends at the base
  pub begin : IsAt base log
  -- redo from there on makes each page what the whole log makes of it
  pub gives : (space number : ℕ) → space < redo_space
      → Gives space number base log (standing_of (image_of m) space number)
  -- the system space has no page that the log doesn't make
  pub system : (number : ℕ) → page_of (replayed log) 0 number ≡ None
      → page_of (image_of m) 0 number ≡ None
  -- each page may stand at its place
  pub placed : (space number : ℕ)
      → IsPlaced space number (standing_of (image_of m) space number)
  -- the redo's space begins with the log from the base on
  pub redo : redo_of m (length (log_of begin.behind)) ≡ log_of begin.behind
  -- no page is being written
  pub quiet : IsQuiet m

-- the disk has the complete mark of this end
abbrev pub completed : CloneEnd → DiskImage → DiskImage
completed end m = with_mark m (mark_bytes (mark.Complete end))
