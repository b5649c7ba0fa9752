-- What a donor keeps of the clone that it gives.
use Rattle.std.specs.Prelude.{ℕ, ◌≡◌, ◌≤◌, ◌<◌, ◌+◌, ◌-◌, List, length, min, None, Some, IsSome}
use Rattle.std.specs.Prelude.{All}
use Rattle.std.specs.declared.option.Option.{Option}
use Rattle.clone_base.specs.declared.limits.TheConstants.{LSN_LIMIT, MOST_TASKS, SPACE_LIMIT}
use Rattle.clone_track.specs.TrackedPages.{TrackedPages}
use Rattle.clone_archive.specs.Archived.{Archived, archived_of}
use Rattle.clone_snapshot.specs.StageLists.{StageList, Files, Pages, Redo, Nothing, chunk_count}
use Rattle.clone_snapshot.specs.Snaps.{Snap}
use Rattle.clone_model.specs.declared.config.TheConstants.{MOST_RING}
use Rattle.clone_session.specs.declared.info.Stop.{Stop}
use Rattle.clone_session.specs.declared.limits.TheConstants.{VERSION}

-- a session: who asked for it, the stage that it has come to with its chunks, and the spaces that
-- were created while files were copied
pub record Session : Type 0 where
  pub number : ℕ
  pub incarnation : ℕ
  pub tasks : ℕ
  -- that of the protocol, which the session was opened with
  pub version : ℕ
  pub snap : Snap
  -- each with its number of pages, from the end of the copy of files on
  pub created : List (ℕ × ℕ)

pub record Cloning : Type 0 where
  pub session : Option Session
  -- the pages that were noted, while files are copied
  pub tracking : TrackedPages
  -- the redo that is kept for the session
  pub archive : Option Archived
  -- the last stop
  pub stop : Option Stop
  -- how many bytes the ring of the log has
  pub ring : ℕ

-- nothing is tracked, and no archive stands
pub record IsIdle (c : Cloning) : Type 0 where
  pub untracked : c.tracking.pages ≡ None
  pub unarchived : c.archive ≡ None

-- pages are tracked, there is no archive yet, and there are at most 63 spaces
pub record CopiesFiles (c : Cloning) (spaces : List (ℕ × ℕ)) : Type 0 where
  pub tracked : IsSome c.tracking.pages
  pub unarchived : c.archive ≡ None
  pub few : length spaces ≤ SPACE_LIMIT

-- a ring's size after what is archived, or where a log may end at most
abbrev pub reach : ℕ → Archived → ℕ
reach ring archive = min (archived_of archive + ring) (LSN_LIMIT - 1)

-- An archive stands whose end is open, and there is room for the chunks of redo that ends a ring's
-- size after it.
pub record CopiesPages (c : Cloning) (room : ℕ) : Type 0 where
  pub untracked : c.tracking.pages ≡ None
  pub archive : Archived
  pub stands : c.archive ≡ Some archive
  pub unended : archive.stop ≡ None
  pub below : archived_of archive < LSN_LIMIT
  pub room_for : chunk_count (Redo archive.start (reach c.ring archive)) ≤ room

-- the archive's end is fixed, and the last stop is this session's
pub record CopiesRedo (c : Cloning) (number start end : ℕ) : Type 0 where
  pub untracked : c.tracking.pages ≡ None
  pub archive : Archived
  pub stands : c.archive ≡ Some archive
  pub starts : archive.start ≡ start
  pub ended : archive.stop ≡ Some end
  pub last : Stop
  pub stopped : c.stop ≡ Some last
  pub own : last.session ≡ number

-- what a stage needs
abbrev pub IsInStage : Cloning → Session → StageList → Type 0
IsInStage c s (Files spaces) = CopiesFiles c spaces
IsInStage c s (Pages pages) = CopiesPages c s.snap.room
IsInStage c s (Redo start end) = CopiesRedo c s.number start end
IsInStage c s Nothing = (start end : ℕ) × CopiesRedo c s.number start end

-- In the first version no block is kept.
abbrev pub IsOfVersion : Session → Type 0
IsOfVersion s = s.version ≡ VERSION → All (λ mask. mask ≡ 0) s.snap.kept

abbrev pub IsInSession : Cloning → Option Session → Type 0
IsInSession c None = IsIdle c
IsInSession c (Some s) =
    (1 ≤ s.tasks) × (s.tasks ≤ MOST_TASKS) × IsInStage c s s.snap.list
    × (length s.created ≤ SPACE_LIMIT) × IsOfVersion s

-- what holds of every clone
pub record IsCloning (c : Cloning) : Type 0 where
  pub ring : c.ring ≤ MOST_RING
  pub session : IsInSession c c.session
