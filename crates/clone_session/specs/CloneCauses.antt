-- Why a call of a clone is refused: the first cause that stands, in the order of each call, or
-- none.
use Rattle.std.specs.Prelude.{ℕ, ◌+◌, ◌==◌, ◌&&◌, ◌||◌, not, nat_lt, nat_le, Bool, true, false}
use Rattle.std.specs.Prelude.{if◌then◌else◌, is_some, None, Some, slice_get, slice_index}
use Rattle.std.specs.Prelude.{option_and_then}
use Rattle.std.specs.declared.option.Option.{Option}
use Rattle.std.specs.Option.{option_or, option_map_or}
use Rattle.clone_base.specs.declared.limits.TheConstants.{MOST_TASKS, PAGE_SIZE}
use Rattle.clone_chunk.specs.declared.chunk.Chunk.{Chunk}
use Rattle.clone_chunk.specs.declared.chunk.Chunk.TheVariants.{Free, Claimed, Finished}
use Rattle.clone_chunk.specs.Chunks.{left_of, is_kept}
use Rattle.clone_chunk.specs.Stages.{stage_number}
use Rattle.clone_archive.specs.Archived.{Archived, archived_of}
use Rattle.clone_snapshot.specs.StageLists.{Part, PagePart, RedoPart, stage_of, block_of}
use Rattle.clone_session.specs.declared.caller.Caller.{Caller}
use Rattle.clone_session.specs.declared.caller.Hello.{Hello}
use Rattle.clone_session.specs.declared.limits.TheConstants.{VERSION, BLOCKS_VERSION}
use Rattle.clone_chunk.specs.declared.cause.CloneCause.{CloneCause}
use Rattle.clone_chunk.specs.declared.cause.CloneCause.TheVariants.{Busy, VersionMismatch}
use Rattle.clone_chunk.specs.declared.cause.CloneCause.TheVariants.{PageSizeMismatch}
use Rattle.clone_chunk.specs.declared.cause.CloneCause.TheVariants.{CompressionRefused}
use Rattle.clone_chunk.specs.declared.cause.CloneCause.TheVariants.{TasksOutOfRange, NoSuchSession}
use Rattle.clone_chunk.specs.declared.cause.CloneCause.TheVariants.{Stale, StageMismatch}
use Rattle.clone_chunk.specs.declared.cause.CloneCause.TheVariants.{ChunksLeft, FloorAhead}
use Rattle.clone_chunk.specs.declared.cause.CloneCause.TheVariants.{NotClaimed, ArchiveBehind}
use Rattle.clone_session.specs.Cloning.{Cloning, Session}

-- a cause where it stands
abbrev pub whether : Bool → CloneCause → Option CloneCause
whether true cause = Some cause
whether false cause = None

-- the number of the donor's stage
abbrev pub donor_stage : Session → ℕ
donor_stage s = stage_number (stage_of s.snap.list)

-- the session that stands, where it has this number
abbrev pub session_of : Cloning → ℕ → Option Session
session_of c number =
    option_and_then (λ (s : Session). if s.number == number then Some s else None) c.session

-- what is against a call on a session, after that none has its number
abbrev pub on_session : Cloning → ℕ → (Session → Option CloneCause) → Option CloneCause
on_session c number cause = option_map_or cause (session_of c number) (Some NoSuchSession)

-- the caller's incarnation is over
abbrev pub stale : Session → ℕ → Option CloneCause
stale s incarnation = whether (nat_lt incarnation s.incarnation) (Stale s.incarnation)

-- no later incarnation than the one that the donor keeps
abbrev pub not_later : Session → ℕ → Option CloneCause
not_later s incarnation = whether (nat_le incarnation s.incarnation) (Stale s.incarnation)

-- the donor is in another stage
abbrev pub other_stage : Session → ℕ → Option CloneCause
other_stage s stage =
    whether (not (stage == donor_stage s)) (StageMismatch (donor_stage s) stage)

-- THE BEGINNING OF A SESSION, by what the requester says of itself, and then by the session that
-- stands: another one, or this one unless a later incarnation of it begins while files are copied
abbrev pub standing_cause : Option Session → Hello → Option CloneCause
standing_cause None hello = None
standing_cause (Some s) hello =
    option_or (whether (not (s.number == hello.session)) (Busy s.number))
    (option_or (not_later s hello.incarnation)
    (whether (not (donor_stage s == 1)) (StageMismatch (donor_stage s) 1)))

-- the protocol has this version
abbrev pub is_version : ℕ → Bool
is_version version = (version == VERSION) || (version == BLOCKS_VERSION)

abbrev pub hello_cause : Cloning → Hello → Option CloneCause
hello_cause c hello =
    option_or (whether (not (is_version hello.version)) (VersionMismatch hello.version))
    (option_or (whether (not (hello.page_size == PAGE_SIZE)) (PageSizeMismatch hello.page_size))
    (option_or (whether hello.compress CompressionRefused)
    (option_or (whether ((hello.tasks == 0) || nat_lt MOST_TASKS hello.tasks)
    (TasksOutOfRange hello.tasks)) (standing_cause c.session hello))))

-- A TASK JOINS the session
abbrev pub attach_cause : Cloning → Caller → Option CloneCause
attach_cause c caller =
    on_session c caller.session
    (λ s. option_or (whether (not (caller.incarnation == s.incarnation)) (Stale s.incarnation))
    (whether (nat_le s.tasks caller.task) (TasksOutOfRange caller.task)))

-- the stage is one in which something is copied, and the donor's or the one before it
abbrev pub is_acknowledged : Session → ℕ → Bool
is_acknowledged s stage =
    nat_le 1 stage && nat_le stage 3
    && ((stage == donor_stage s) || (stage + 1 == donor_stage s))

abbrev pub out_of_stage : Session → ℕ → Option CloneCause
out_of_stage s stage =
    whether (not (is_acknowledged s stage)) (StageMismatch (donor_stage s) stage)

-- A LATER INCARNATION joins the session: with the chunks that it has, or with their blocks too,
-- which the first version doesn't know
abbrev pub reinit_cause : Cloning → Caller → ℕ → Option CloneCause
reinit_cause c caller stage =
    on_session c caller.session
    (λ s. option_or (not_later s caller.incarnation) (out_of_stage s stage))

abbrev pub no_blocks : Session → Option CloneCause
no_blocks s = whether (s.version == VERSION) (VersionMismatch BLOCKS_VERSION)

abbrev pub reinit_blocks_cause : Cloning → Caller → ℕ → Option CloneCause
reinit_blocks_cause c caller stage =
    on_session c caller.session
    (λ s. option_or (not_later s caller.incarnation)
    (option_or (no_blocks s) (out_of_stage s stage)))

-- A CLAIM
abbrev pub claim_cause : Cloning → Caller → ℕ → Option CloneCause
claim_cause c caller stage =
    on_session c caller.session
    (λ s. option_or (stale s caller.incarnation) (other_stage s stage))

-- the task has claimed the chunk
abbrev pub is_claimed : ℕ → Option Chunk → Bool
is_claimed task None = false
is_claimed task (Some Free) = false
is_claimed task (Some (Claimed by)) = by == task
is_claimed task (Some Finished) = false

abbrev pub unclaimed : Session → ℕ → ℕ → Option CloneCause
unclaimed s task chunk =
    whether (not (is_claimed task (slice_get s.snap.chunks chunk))) NotClaimed

-- it hasn't, or the chunk doesn't have the block, or the block is kept
abbrev pub not_claimed : Session → ℕ → ℕ → ℕ → Option CloneCause
not_claimed s task chunk block =
    whether (not (is_claimed task (slice_get s.snap.chunks chunk)
    && is_some (block_of s.snap.list chunk block)
    && not (is_kept (slice_index s.snap.kept chunk) block))) NotClaimed

-- THE KEPT BLOCKS of a chunk
abbrev pub kept_cause : Cloning → Caller → ℕ → ℕ → Option CloneCause
kept_cause c caller stage chunk =
    on_session c caller.session
    (λ s. option_or (stale s caller.incarnation)
    (option_or (other_stage s stage) (unclaimed s caller.task chunk)))

-- redo that ends there isn't archived yet
abbrev pub behind : Option Archived → ℕ → Option CloneCause
behind None until = None
behind (Some a) until =
    whether (nat_lt (archived_of a) until) (ArchiveBehind (archived_of a) until)

-- the block, if it is one of redo, ends after what is archived
abbrev pub archive_behind : Option Archived → Option Part → Option CloneCause
archive_behind archive None = None
archive_behind archive (Some (PagePart pages)) = None
archive_behind archive (Some (RedoPart from count)) = behind archive (from + count)

-- A BLOCK
abbrev pub block_cause : Cloning → Caller → ℕ → ℕ → ℕ → Option CloneCause
block_cause c caller stage chunk block =
    on_session c caller.session
    (λ s. option_or (stale s caller.incarnation) (option_or (other_stage s stage)
    (option_or (not_claimed s caller.task chunk block)
    (archive_behind c.archive (block_of s.snap.list chunk block)))))

-- the donor's stage has chunks that aren't finished
abbrev pub chunks_left : Session → ℕ → Option CloneCause
chunks_left s stage =
    whether ((stage == donor_stage s) && not (left_of s.snap.chunks == 0))
    (ChunksLeft (left_of s.snap.chunks))

-- the copy of pages is acknowledged for the first time, with a floor above the position
abbrev pub floor_ahead : Session → ℕ → ℕ → ℕ → Option CloneCause
floor_ahead s stage floor position =
    whether ((stage == 2) && (donor_stage s == 2) && nat_lt position floor)
    (FloorAhead floor position)

-- AN ACKNOWLEDGEMENT
abbrev pub acknowledgement_cause : Cloning → Caller → ℕ → ℕ → ℕ → Option CloneCause
acknowledgement_cause c caller stage floor position =
    on_session c caller.session
    (λ s. option_or (stale s caller.incarnation)
    (option_or (out_of_stage s stage)
    (option_or (chunks_left s stage) (floor_ahead s stage floor position))))

-- AN EXIT
abbrev pub exit_cause : Cloning → Caller → Option CloneCause
exit_cause c caller = on_session c caller.session (λ s. stale s caller.incarnation)

-- AN ABANDONMENT
abbrev pub abandon_cause : Cloning → ℕ → Option CloneCause
abandon_cause c number = on_session c number (λ s. None)
