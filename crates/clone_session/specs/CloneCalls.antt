-- The calls of a clone, with their answers.
use Rattle.std.specs.Prelude.{ℕ, ◌≡◌, ◌↔◌, ◌≤◌, ◌<◌, ◌+◌, ◌-◌, ◌^◌, ◌==◌, Bool, List, [], length}
use Rattle.std.specs.Prelude.{take, drop, None, Some, Result, Ok, Err, All, IsTrue, slice_get}
use Rattle.std.specs.Prelude.{if◌then◌else◌}
use Rattle.std.specs.declared.option.Option.{Option}
use Rattle.clone_base.specs.declared.limits.TheConstants.{LSN_LIMIT, SPACE_LIMIT}
use Rattle.std.specs.Option.{ForSome}
use Rattle.clone_chunk.specs.Chunks.{IsLeastFree, IsTaken}
use Rattle.clone_chunk.specs.declared.chunk.Chunk.TheVariants.{Claimed}
use Rattle.clone_chunk.specs.declared.partials.PartialChunk.{PartialChunk}
use Rattle.clone_ring.specs.Window.{Window, end_of}
use Rattle.clone_archive.specs.Archived.{Archived, archived_of, kept_from, end_in, copied}
use Rattle.clone_archive.specs.Archived.{next_count}
use Rattle.clone_snapshot.specs.StageLists.{Files, Part, PagePart, RedoPart, block_of, chunk_count}
use Rattle.clone_snapshot.specs.Resets.{IsLast, IsReset}
use Rattle.clone_snapshot.specs.Snaps.{Snap}
use Rattle.clone_snapshot.specs.declared.block.RedoBlock.{RedoBlock}
use Rattle.clone_session.specs.declared.copying.BlockWork.{BlockWork}
use Rattle.clone_session.specs.declared.copying.BlockWork.TheVariants.{Pages as BlockPages}
use Rattle.clone_session.specs.declared.copying.BlockWork.TheVariants.{Redo as BlockRedo}
use Rattle.clone_session.specs.declared.caller.Caller.{Caller}
use Rattle.clone_session.specs.declared.ending.Moment.{Moment}
use Rattle.clone_session.specs.declared.info.StageInfo.{StageInfo}
use Rattle.clone_chunk.specs.declared.cause.CloneCause.{CloneCause}
use Rattle.clone_session.specs.declared.refusal.CloneRefusal.{CloneRefusal}
use Rattle.clone_session.specs.declared.refusal.CloneRefusal.TheVariants.{Because, NoMemory}
use Rattle.clone_session.specs.Cloning.{Cloning, Session}
use Rattle.clone_session.specs.CloneCauses.{session_of, claim_cause, donor_stage}
use Rattle.clone_session.specs.Effects.{Becomes, Tells, acknowledged, claimed, finished, rejoined}

-- A call is carried out only where there is no cause against it. Else it is refused for that cause,
-- and nothing has changed. Out of memory is free.
abbrev pub Decided : {X : Type 0} → Option CloneCause → Cloning → Cloning → Result X CloneRefusal
    → (X → Type 0) → Type 0
Decided cause old new (Ok x) Does = (cause ≡ None) × Does x
Decided cause old new (Err (Because e)) Does = (cause ≡ Some e) × (new ≡ old)
Decided cause old new (Err NoMemory) Does = (cause ≡ None) × Becomes new old

-- An acknowledgement, when the donor has these files: the session's stage is over, or it was
-- before, and the answer tells the stage that it has come to.
abbrev pub Acknowledges : Moment → List (ℕ × ℕ) → (number stage : ℕ) → Cloning → Cloning → StageInfo
    → Type 0
Acknowledges now files number stage old new info =
    (s : Session) × (session_of old number ≡ Some s)
    × Becomes new (acknowledged now files stage s old) × Tells new info

-- what a requester in this stage has of the donor's: nothing, where the donor's is the next one
abbrev pub of_stage : {X : Type 0} → ℕ → Session → List X → List X
of_stage stage s list = if stage == donor_stage s then list else []

-- A LATER INCARNATION joins the session, which stays in its stage, with the chunks that it has and
-- with blocks of others. No claim stays. The answer tells the stage.
abbrev pub Rejoins : ℕ → ℕ → List ℕ → List PartialChunk → Session → Cloning → Cloning → Type 0
Rejoins incarnation stage bitmap partials s old new =
    (snap : Snap) × (snap.list ≡ s.snap.list)
    × IsReset snap.list (of_stage stage s bitmap) (of_stage stage s partials) snap.chunks snap.kept
    × Becomes new (rejoined incarnation snap s old)

abbrev pub Reinits : Caller → ℕ → List ℕ → List PartialChunk → Cloning → Cloning → StageInfo
    → Type 0
Reinits caller stage bitmap partials old new info =
    (s : Session) × (session_of old caller.session ≡ Some s)
    × Rejoins caller.incarnation stage bitmap partials s old new × Tells new info

-- the session of this number is so
abbrev pub OnSession : Cloning → ℕ → (Session → Type 0) → Type 0
OnSession c number P = (s : Session) × (session_of c number ≡ Some s) × P s

-- files are copied
abbrev pub InFiles : Cloning → Type 0
InFiles c = (s : Session) × (c.session ≡ Some s) × (donor_stage s ≡ 1)

-- the chunks of these files have numbers, and there are at most 63 files
abbrev pub AreFiles : List (ℕ × ℕ) → Type 0
AreFiles spaces = (chunk_count (Files spaces) < 2 ^ 32) × (length spaces ≤ SPACE_LIMIT)

-- A CLAIM gives the task the least chunk that is free, or none where none is.
abbrev pub Claims : Caller → ℕ → Cloning → Cloning → Result (Option ℕ) CloneCause → Type 0
Claims caller stage old new (Ok None) =
    (claim_cause old caller stage ≡ None)
    × OnSession old caller.session (λ s. All IsTaken s.snap.chunks) × (new ≡ old)
Claims caller stage old new (Ok (Some chunk)) =
    (claim_cause old caller stage ≡ None)
    × OnSession old caller.session
    (λ s. IsLeastFree s.snap.chunks chunk × (new ≡ claimed caller.task chunk s old))
Claims caller stage old new (Err cause) =
    (claim_cause old caller stage ≡ Some cause) × (new ≡ old)

-- a block of redo is archived
abbrev pub IsInArchive : Option Archived → RedoBlock → Type 0
IsInArchive None redo = ⊥
IsInArchive (Some a) redo = (a.start ≤ redo.from) × (redo.from + redo.length ≤ archived_of a)

-- its bytes
abbrev pub redo_in : Option Archived → RedoBlock → List ℕ
redo_in None redo = []
redo_in (Some a) redo = take redo.length (drop (redo.from - a.start) a.bytes)

-- what a block is made of, as a part of the stage's list
abbrev pub part_of : BlockWork → Part
part_of (BlockPages pages) = PagePart pages
part_of (BlockRedo redo) = RedoPart redo.from redo.length

-- a block of redo lies in a log
abbrev pub IsInLog : BlockWork → Type 0
IsInLog (BlockPages pages) = Unit {0}
IsInLog (BlockRedo redo) = redo.from + redo.length < LSN_LIMIT

-- a block of redo is archived
abbrev pub IsThere : Cloning → BlockWork → Type 0
IsThere c (BlockPages pages) = Unit {0}
IsThere c (BlockRedo redo) = IsInArchive c.archive redo

-- The block is made of this, and what is redo of it is archived.
abbrev pub IsBlockOf : Cloning → ℕ → ℕ → ℕ → BlockWork → Type 0
IsBlockOf c number chunk block work =
    OnSession c number (λ s. block_of s.snap.list chunk block ≡ Some (part_of work))
    × IsThere c work

-- the caller has claimed the chunk
abbrev pub HasClaimed : Caller → ℕ → Cloning → Type 0
HasClaimed caller chunk c =
    OnSession c caller.session
    (λ s. slice_get s.snap.chunks chunk ≡ Some (Claimed caller.task))

-- A BLOCK WAS ANSWERED. The last one of a chunk that isn't kept finishes it.
abbrev pub Answers : Caller → ℕ → ℕ → Cloning → Cloning → Bool → Type 0
Answers caller chunk block old new last =
    OnSession old caller.session
    (λ s. (IsTrue last ↔ IsLast s.snap.list s.snap.kept chunk block)
    × (new ≡ (if last then finished chunk s old else old)))

-- The ring has what comes next for the archive, and reaches to its fixed end.
pub record CanArchive (c : Cloning) (ring : Window) : Type 0 where
  pub kept : ForSome (kept_from c.archive) (λ lsn. (ring.floor ≤ lsn) × (lsn ≤ end_of ring))
  pub within : ForSome (end_in c.archive) (λ end. end ≤ end_of ring)

-- more of the ring is archived, as much as is left but no more than the limit
abbrev pub archived_on : ℕ → Window → Archived → Archived
archived_on limit ring a = copied (next_count limit a ring) a ring

abbrev pub Archives : {E : Type 0} → ℕ → Window → Cloning → Cloning → Result (Option ℕ) E → Type 0
Archives limit ring old new (Ok None) = (old.archive ≡ None) × (new ≡ old)
Archives limit ring old new (Ok (Some lsn)) =
    (a : Archived) × (old.archive ≡ Some a)
    × Becomes new (record old { archive = Some (archived_on limit ring a) })
    × (lsn ≡ archived_of (archived_on limit ring a))
Archives limit ring old new (Err e) = Becomes new old

-- the archive whose end is open reaches to the log's end, or falls short of it by no more than a
-- ring's size
abbrev pub IsWithinRing : ℕ → ℕ → Option Archived → Type 0
IsWithinRing end ring None = Unit {0}
IsWithinRing end ring (Some a) =
    a.stop ≡ None → (archived_of a ≤ end) × (end ≤ archived_of a + ring)

-- a moment of the donor's: its log ends within a ring's size of what is archived
pub record IsMoment (c : Cloning) (now : Moment) : Type 0 where
  pub checkpoint : now.checkpoint < LSN_LIMIT
  pub end : now.end < LSN_LIMIT
  pub within : IsWithinRing now.end c.ring c.archive
