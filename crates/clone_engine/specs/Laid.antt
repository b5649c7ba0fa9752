-- A requester's disk on which what was taken of a donor is laid.
use Rattle.std.specs.Prelude.{ℕ, ◌≡◌, ◌<◌, ◌≤◌, None, Some, length}
use Rattle.clone_outside.specs.Disk.{DiskImage}
use Rattle.clone_outside.specs.declared.mark.CloneEnd.{CloneEnd}
use Rattle.clone_contents.specs.Records.{system_size}
use Rattle.clone_image.specs.Image.{page_of}
use Rattle.clone_image.specs.Redone.{standing_of}
use Rattle.clone_law.specs.Starts.{HasStart}
use Rattle.clone_archive.specs.Archived.{Archived, archived_of}
use Rattle.clone_overlay.specs.Images.{redo_space, image_of, IsQuiet}
use Rattle.clone_recover.specs.Reading.{redo_of}
use Rattle.clone_model.specs.History.{fold}
use Rattle.clone_plain.specs.Donor.{history}
use Rattle.clone_staged.specs.Staged.{completed}
use Rattle.clone_staged.specs.Holds.{HoldsCopy}
use Rattle.clone_session.specs.declared.info.Stop.{Stop}
use Rattle.clone_engine.specs.Engine.{Engine}
use Rattle.clone_engine.specs.Donor.{Donor}
use Rattle.clone_engine.specs.Taken.{Taken}

-- Each page of a table or of the system space stands as something from which redo of it may start:
-- as any one answer of a block that counts. The redo's space begins with the archived bytes, and no
-- page is being written.
pub record IsLaid (taken : Taken) (a : Archived) (m : DiskImage) : Type 0 where
  pub starts : (space number : ℕ) → space < redo_space
      → HasStart (taken.copies space number) (standing_of (image_of m) space number)
  pub short : (number : ℕ) → system_size ≤ number → page_of (image_of m) 0 number ≡ None
  pub redo : redo_of m (length a.bytes) ≡ a.bytes
  pub quiet : IsQuiet m

-- A CLONE IS COMPLETE: what was taken is laid, all redo of it is archived, and its end is that of
-- the last stop.
pub record IsComplete (d : Donor) (taken : Taken) (end : CloneEnd) (m : DiskImage) : Type 0 where
  pub archive : Archived
  pub stands : d.cloning.archive ≡ Some archive
  pub laid : IsLaid taken archive m
  pub whole : archive.stop ≡ Some (archived_of archive)
  pub stop : Stop
  pub last : d.cloning.stop ≡ Some stop
  pub checkpoint : end.checkpoint ≡ archive.start
  pub lsn : end.lsn ≡ archived_of archive
  pub position : end.position ≡ stop.position

-- With the complete mark that disk recovers to the first commits of the donor's history, as many as
-- there were at the stop.
pub record HoldsMoment (taken : Taken) (end : CloneEnd) (m : DiskImage) : Type 0 where
  pub at : Engine
  pub stop : taken.stop ≡ Some at
  pub commits : end.position ≡ length at.donor.binlog
  pub holds : HoldsCopy (completed end m) (fold (history at.donor)) end.position
