-- A donor as contracts see it: its engine, and what it keeps of the clone that it gives.
use Rattle.std.specs.Prelude.{ℕ, ◌≡◌, ◌≤◌, All, List, IsSome, Some, true, option_map}
use Rattle.std.specs.declared.option.Option.{Option}
use Rattle.std.specs.FinMap as finite
use Rattle.std.specs.Option.{ForSome}
use Rattle.std.specs.List.{AllByRecursion}
use Rattle.clone_outside.specs.Disk.{ForTold}
use Rattle.clone_image.specs.Image.{page_of}
use Rattle.clone_contents.specs.Placed.{WasPlaced}
use Rattle.clone_track.specs.TrackedPages.{Pages}
use Rattle.clone_archive.specs.Archived.{kept_from}
use Rattle.clone_snapshot.specs.StageLists as lists
use Rattle.clone_snapshot.specs.StageLists.{StageList}
use Rattle.clone_buffer.specs.Buffered.{image_of}
use Rattle.clone_flush.specs.Calls.{needed_from}
use Rattle.clone_flush.specs.Flights.{Files}
use Rattle.clone_engine.specs.Archives.{IsOfLog}
use Rattle.clone_engine.specs.Copies.{is_noted}
use Rattle.clone_session.specs.Cloning.{Cloning, Session}
use Rattle.clone_session.specs.CloneCalls.{CanArchive}
use Rattle.clone_engine.specs.Engine.{Engine, IsEngine}

pub record Donor : Type 0 where
  pub engine : Engine
  pub cloning : Cloning

-- what the session's stage copies, if one stands
abbrev pub list_of : Cloning → Option StageList
list_of c = option_map (λ (s : Session). s.snap.list) c.session

-- the files of an engine, ascending by their spaces, each with the number of pages that it is known
-- to have
abbrev pub known_files : Engine → List (ℕ × ℕ)
known_files e = finite.entries e.flights.files

-- a space's file is known to have so many pages
pub record HasPages (files : Files) (file : ℕ × ℕ) : Type 0 where
  pub pages : ℕ
  pub known : finite.get files file.0 ≡ Some pages
  pub enough : file.1 ≤ pages

-- the page is one of the engine's image
abbrev pub IsPageOf : Engine → ℕ → ℕ → Type 0
IsPageOf e space number = IsSome (page_of (image_of e.buffer) space number)

-- these are such pages
abbrev pub ArePages : Engine → List (ℕ × ℕ) → Type 0
ArePages e pages = AllByRecursion (λ page. IsPageOf e page.0 page.1) pages

-- so are those that are tracked
abbrev pub NotesPages : Engine → Option Pages → Type 0
NotesPages e pages =
    (space number : ℕ) → is_noted pages space number ≡ true → IsPageOf e space number

-- a stage copies files and pages of the engine
abbrev pub CopiesOwn : Engine → StageList → Type 0
CopiesOwn e (lists.Files spaces) = All (HasPages e.flights.files) spaces
CopiesOwn e (lists.Pages pages) = ForTold e.disk.told (λ m. ArePages e pages)
CopiesOwn e (lists.Redo start end) = Unit {0}
CopiesOwn e lists.Nothing = Unit {0}

-- What holds of every donor.
pub record IsDonor (d : Donor) : Type 0 where
  pub engine : IsEngine d.engine
  pub ring : d.cloning.ring ≡ d.engine.buffer.ring.size
  -- the ring has what comes next for the archive
  pub archives : CanArchive d.cloning d.engine.buffer.ring
  pub redo : ForSome d.cloning.archive (IsOfLog d.engine.buffer.log)
  -- where the disk tells what it holds, the log is kept from the last checkpoint on, or from what
  -- is archived where that is less and the archive hasn't come to its end
  pub floor : ForTold d.engine.disk.told (λ m. d.engine.buffer.ring.floor
      ≡ needed_from d.engine.flights.checkpoint (kept_from d.cloning.archive))
  -- and each page may stand at its place, at each moment of the log
  pub placed : ForTold d.engine.disk.told
      (λ m. (space number : ℕ) → WasPlaced space number d.engine.buffer.log)
  -- what is copied is the donor's
  pub own : ForSome (list_of d.cloning) (CopiesOwn d.engine)
  pub notes : ForTold d.engine.disk.told
      (λ m. NotesPages d.engine d.cloning.tracking.pages)
