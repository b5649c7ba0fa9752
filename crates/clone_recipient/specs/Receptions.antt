-- What a requester knows of a clone: where its tasks are, and what it was told of the stages.
use Rattle.std.specs.Prelude.{ℕ, ◌≡◌, ◌≢◌, ◌⊎◌, Bool, false, List, [], None}
use Rattle.std.specs.FinMap as finite
use Rattle.std.specs.Coded.{Coded, coded_ℕ}
use Rattle.clone_outside.specs.Disk.{DiskImage}
use Rattle.clone_lay.specs.Sized.{PageCounts}
use Rattle.clone_chunk.specs.declared.copy_stage.CopyStage.{CopyStage}
use Rattle.clone_chunk.specs.declared.copy_stage.CopyStage.TheVariants.{FileCopy, PageCopy}
use Rattle.clone_chunk.specs.declared.copy_stage.CopyStage.TheVariants.{RedoCopy}
use Rattle.clone_snapshot.specs.StageLists.{StageList, Files, Redo}
use Rattle.clone_marks.specs.Blocks.{blocks_of}
use Rattle.clone_marks.specs.Counts.{block_counts, counted_pages}
use Rattle.clone_tasks.specs.Tables as tables
use Rattle.clone_tasks.specs.Tables.{Table}
use Rattle.clone_tasks.specs.declared.standing.Phase.{Phase}
use Rattle.clone_tasks.specs.declared.standing.Phase.TheVariants.{Opening, Copying, Done}

pub record Reception : Type 0 where
  pub table : Table
  -- how many pages each space of the disk has
  pub sizes : PageCounts
  -- the spaces of FILE COPY, each with its number of pages
  pub files : List (ℕ × ℕ)
  -- how many pages PAGE COPY has
  pub pages : ℕ
  -- where the redo of REDO COPY begins and ends, and how many commits there are up to its end
  pub checkpoint : ℕ
  pub lsn : ℕ
  pub position : ℕ
  -- the complete mark was written, and all was synced
  pub synced : Bool
  -- the disk was recovered
  pub recovered : Bool

abbrev pub sizes_code : Coded PageCounts
sizes_code = finite.code coded_ℕ coded_ℕ

-- before the first step
abbrev pub begun : (session count limit version : ℕ) → Reception
begun session count limit version = record {
  table = tables.begun session count limit version;
  sizes = finite.empty;
  files = [];
  pages = 0;
  checkpoint = 0;
  lsn = 0;
  position = 0;
  synced = false;
  recovered = false;
}

-- WHAT A STAGE COPIES, by what was told of it
abbrev pub list_of : CopyStage → Reception → StageList
list_of FileCopy r = Files r.files
list_of PageCopy r = counted_pages r.pages
list_of RedoCopy r = Redo r.checkpoint r.lsn

-- while a stage is copied its chunks have as many blocks as the list is cut into
abbrev pub AreCounted : Phase → Reception → Type 0
AreCounted Opening r = Unit {0}
AreCounted (Copying stage) r = blocks_of r.table.marks ≡ block_counts (list_of stage r)
AreCounted Done r = Unit {0}

-- the disk holds a space or a mark
abbrev pub IsNotEmpty : DiskImage → Type 0
IsNotEmpty m = (m.spaces ≢ finite.empty) ⊎ (m.mark ≢ None)
