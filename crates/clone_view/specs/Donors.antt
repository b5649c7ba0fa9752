-- A DONOR'S SESSION AND ITS LOOPS as the donor of the rounds.
use Rattle.std.specs.Prelude.{ℕ, ◌≡◌, ◌≢◌, ◌<◌, ◌⊎◌, ◌-◌, ◌==◌, Bool, true, false, List, []}
use Rattle.std.specs.Prelude.{None, Some}
use Rattle.std.specs.Prelude.{slice_get, slice_index}
use Rattle.std.specs.declared.option.Option.{Option}
use Rattle.clone_chunk.specs.Chunks.{is_kept}
use Rattle.clone_chunk.specs.Stages.{copy_number}
use Rattle.clone_chunk.specs.declared.chunk.Chunk.{Chunk}
use Rattle.clone_chunk.specs.declared.chunk.Chunk.TheVariants as chunk
use Rattle.clone_snapshot.specs.StageLists.{StageList, block_count}
use Rattle.clone_marks.specs.Counts.{block_counts}
use Rattle.clone_session.specs.Cloning.{Session}
use Rattle.clone_session.specs.CloneCauses.{donor_stage}
use Rattle.clone_serve.specs.declared.doing.Doing.{Doing}
use Rattle.clone_serve.specs.declared.doing.Doing.TheVariants as doing
use Rattle.clone_serve.specs.declared.doing.Execution.{Execution}
use Rattle.clone_serve.specs.declared.doing.Place.{Place}
use Rattle.clone_serve.specs.declared.doing.Work.{Work}
use Rattle.clone_serve.specs.declared.doing.Work.TheVariants.{Claim, Weigh, Read, Archive}
use Rattle.clone_rounds.specs.World.{Core, New, Ready, Serving, Over}
use Rattle.clone_rounds.specs.World.{Owner, Free, Claimed, Sent, Kept, World}
use Rattle.clone_view.specs.Rows.{places, place_of, left_from}

-- ---- the loop of a connection

-- the blocks of a claimed chunk that are still to be sent
abbrev pub rest_at : StageList → Place → List ℕ
rest_at list place =
    left_from (place_of (block_counts list) place.chunk 0) place.kept place.block
    (block_count list place.chunk - place.block)

-- an EXECUTE that is served, between two steps
abbrev pub serving_at : StageList → Execution → Work → Option Core
serving_at list run Claim = Some (Serving (copy_number run.stage) [])
serving_at list run (Read place again) =
    Some (Serving (copy_number run.stage) (rest_at list place))
serving_at list run (Weigh chunk) = None
serving_at list run (Archive place limit) = None

-- Within a step, while an answer of the donor is awaited, it is none of the rounds.
abbrev pub core_of : StageList → Doing → Option Core
core_of list doing.New = Some New
core_of list (doing.Ready caller) = Some Ready
core_of list (doing.Telling caller) = None
core_of list (doing.Starting run) = None
core_of list doing.Leaving = None
core_of list (doing.Serving run work) = serving_at list run work
core_of list doing.Over = Some Over

-- ---- the session

-- whose a block may be that isn't kept, by the state of its chunk
abbrev pub MayOwn : Chunk → Owner → Type 0
MayOwn chunk.Free o = o ≡ Free
MayOwn (chunk.Claimed task) o = (o ≡ Claimed task) ⊎ (o ≡ Sent task)
MayOwn chunk.Finished o = o ≢ Free

-- whose a block is, by whether it is kept and by the state of its chunk
abbrev pub Owns : Bool → Option Chunk → Owner → Type 0
Owns true state o = o ≡ Kept
Owns false None o = ⊥
Owns false (Some state) o = MayOwn state o

-- each block of a session's stage is owned so, by the place of the block
abbrev pub AreOwned : Session → (ℕ → Owner) → Type 0
AreOwned s owner = (chunk block : ℕ) → block < block_count s.snap.list chunk
    → Owns (is_kept (slice_index s.snap.kept chunk) block) (slice_get s.snap.chunks chunk)
    (owner (place_of (block_counts s.snap.list) chunk block))

-- A SESSION IS THE DONOR of the rounds, by the recipient's incarnation.
pub record IsSession (incarnation : ℕ) (s : Session) (w : World) : Type 0 where
  pub met : w.sides.met ≡ (s.incarnation == incarnation)
  pub at : w.sides.at ≡ donor_stage s
  pub size : w.sides.size w.sides.at ≡ places (block_counts s.snap.list)
  pub owner : AreOwned s w.sides.owner

-- without a session of the recipient's the donor has come to no stage
abbrev pub IsDonor : ℕ → Option Session → World → Type 0
IsDonor incarnation None w = (w.sides.met ≡ false) × (w.sides.at ≡ 0)
IsDonor incarnation (Some s) w = IsSession incarnation s w

-- A SESSION HAS CHANGED at one chunk.
pub record ByChunk (s now : Session) (i : ℕ) : Type 0 where
  pub incarnation : now.incarnation ≡ s.incarnation
  pub list : now.snap.list ≡ s.snap.list
  pub kept : now.snap.kept ≡ s.snap.kept
  pub others : (j : ℕ) → j ≢ i → slice_get now.snap.chunks j ≡ slice_get s.snap.chunks j
