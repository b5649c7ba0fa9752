-- THE SESSION that the donor has of a clone, by what the recipient knows.
use Rattle.std.specs.Prelude.{ℕ, ◌≡◌, ◌≢◌, ◌<◌, ◌≤◌, ◌^◌, false, List, length, Some, slice_get}
use Rattle.std.specs.Prelude.{slice_index, ⊤}
use Rattle.clone_chunk.specs.Chunks.{is_kept, is_whole}
use Rattle.clone_chunk.specs.declared.chunk.Chunk.TheVariants.{Claimed, Finished}
use Rattle.clone_chunk.specs.declared.copy_stage.CopyStage.TheVariants as copy
use Rattle.clone_snapshot.specs.Snaps.{Snap}
use Rattle.clone_snapshot.specs.StageLists.{StageList, Files, Pages, Redo, block_count, chunk_count}
use Rattle.clone_session.specs.Cloning.{Session}
use Rattle.clone_session.specs.CloneCauses.{donor_stage}
use Rattle.clone_serve.specs.declared.doing.Doing.{Doing}
use Rattle.clone_serve.specs.declared.doing.Doing.TheVariants as doing
use Rattle.clone_serve.specs.declared.doing.Place.{Place}
use Rattle.clone_serve.specs.declared.doing.Work.{Work}
use Rattle.clone_serve.specs.declared.doing.Work.TheVariants.{Read}
use Rattle.clone_tasks.specs.Tables.{incarnation_of}
use Rattle.clone_tasks.specs.declared.standing.Phase.{Phase}
use Rattle.clone_tasks.specs.declared.standing.Phase.TheVariants.{Opening, Copying, Done}
use Rattle.clone_recipient.specs.Receptions.{Reception}
use Rattle.clone_view.specs.Tables.{phase_number}

-- The chunks of a stage, each with the mask of its kept blocks. One that isn't finished has a block
-- that isn't kept.
pub record AreChunks (snap : Snap) : Type 0 where
  pub count : length snap.chunks ≡ chunk_count snap.list
  pub masks : length snap.kept ≡ chunk_count snap.list
  pub within : (i : ℕ) → slice_index snap.kept i < 2 ^ block_count snap.list i
  pub some : (i : ℕ) → i < chunk_count snap.list → slice_get snap.chunks i ≢ Some Finished
      → is_whole (slice_index snap.kept i) (block_count snap.list i) ≡ false

-- the recipient copies this list, as far as it knows it: of PAGE COPY it knows the number of pages
abbrev pub Copies : Phase → Reception → StageList → Type 0
Copies Opening r list = ⊤
Copies (Copying copy.FileCopy) r list = list ≡ Files r.files
Copies (Copying copy.PageCopy) r list =
    (pages : List (ℕ × ℕ)) × (list ≡ Pages pages) × (r.pages ≡ length pages)
Copies (Copying copy.RedoCopy) r list = list ≡ Redo r.checkpoint r.lsn
Copies Done r list = ⊤

-- THE SESSION is one that this clone opened. In one stage both copy the same.
pub record IsSessionOf (r : Reception) (s : Session) : Type 0 where
  pub number : s.number ≡ r.table.session
  pub tasks : s.tasks ≡ r.table.count
  pub version : s.version ≡ r.table.version
  pub before : s.incarnation ≤ incarnation_of r.table
  pub chunks : AreChunks s.snap
  pub copies : donor_stage s ≡ phase_number r.table.phase → Copies r.table.phase r s.snap.list

-- THE PLACE to which an EXECUTE has come is a block of a chunk that the task has claimed, and that
-- isn't kept.
pub record IsPlaceOf (s : Session) (task : ℕ) (place : Place) : Type 0 where
  pub kept : place.kept ≡ slice_index s.snap.kept place.chunk
  pub block : place.block < block_count s.snap.list place.chunk
  pub unkept : is_kept place.kept place.block ≡ false
  pub claimed : slice_get s.snap.chunks place.chunk ≡ Some (Claimed task)

abbrev pub IsWorkOf : Session → ℕ → Work → Type 0
IsWorkOf s task (Read place again) = IsPlaceOf s task place
IsWorkOf s task other = ⊤

-- so far has a donor's end come that serves one
abbrev pub HasComeTo : Session → ℕ → Doing → Type 0
HasComeTo s task (doing.Serving run work) = IsWorkOf s task work
HasComeTo s task other = ⊤
