-- HOW FAR A CLONE IS, and the numbers of its end.
use Rattle.std.specs.Prelude.{ℕ, ◌≡◌, ◌-◌, length, None, Some}
use Rattle.std.specs.declared.option.Option.{Option}
use Rattle.std.specs.Int.{div_ceil}
use Rattle.clone_outside.specs.declared.mark.CloneEnd as mark
use Rattle.clone_chunk.specs.declared.copy_stage.CopyStage.TheVariants.{FileCopy, PageCopy}
use Rattle.clone_chunk.specs.declared.copy_stage.CopyStage.TheVariants.{RedoCopy}
use Rattle.clone_snapshot.specs.StageLists.{Files, chunk_count}
use Rattle.clone_snapshot.specs.declared.sizes.TheConstants.{CHUNK_PAGES, CHUNK_BYTES}
use Rattle.clone_marks.specs.Blocks.{finished_count}
use Rattle.clone_progress.specs.declared.progress.CloneStatus.{CloneStatus}
use Rattle.clone_progress.specs.declared.progress.CloneStatus.TheVariants as status
use Rattle.clone_progress.specs.declared.progress.Copied.{Copied}
use Rattle.clone_progress.specs.declared.progress.Copied.TheVariants as copied
use Rattle.clone_progress.specs.declared.progress.Progress.{Progress}
use Rattle.clone_tasks.specs.declared.end.CloneEnd.{CloneEnd}
use Rattle.clone_tasks.specs.declared.end.CloneEnd.TheVariants as end
use Rattle.clone_tasks.specs.declared.standing.Phase.{Phase}
use Rattle.clone_tasks.specs.declared.standing.Phase.TheVariants as phase
use Rattle.clone_recipient.specs.Receptions.{Reception}

-- ---- the chunks of the three stages

abbrev pub file_chunks : Reception → ℕ
file_chunks r = chunk_count (Files r.files)

abbrev pub page_chunks : Reception → ℕ
page_chunks r = div_ceil r.pages CHUNK_PAGES

abbrev pub redo_chunks : Reception → ℕ
redo_chunks r = div_ceil (r.lsn - r.checkpoint) CHUNK_BYTES

-- ---- how far it is

abbrev pub status_of : Option CloneEnd → CloneStatus
status_of None = status.InProgress
status_of (Some (end.Complete lsn position)) = status.Completed lsn position
status_of (Some (end.Spent losses)) = status.Failed
status_of (Some (end.Garbled kept)) = status.Failed
status_of (Some (end.Refused cause)) = status.Failed
status_of (Some end.DiskFault) = status.Failed

-- the stage that is copied, and the chunks of those before it
abbrev pub copied_of : Phase → Reception → Copied
copied_of phase.Opening r = copied.Nothing
copied_of (phase.Copying FileCopy) r =
    copied.Files (finished_count r.table.marks) (length r.table.marks)
copied_of (phase.Copying PageCopy) r =
    copied.Pages (file_chunks r) (finished_count r.table.marks) (length r.table.marks)
copied_of (phase.Copying RedoCopy) r =
    copied.Redo (file_chunks r) (page_chunks r) (finished_count r.table.marks)
    (length r.table.marks)
copied_of phase.Done r = copied.All (file_chunks r) (page_chunks r) (redo_chunks r)

abbrev pub progress_of : Reception → Progress
progress_of r = record {
  status = status_of r.table.ended;
  copied = copied_of r.table.phase r;
  synced = r.synced;
  recovered = r.recovered;
}

-- ---- THE END of the clone: its session, and the numbers that were told of the copy of redo
pub record IsEndOf (r : Reception) (end : mark.CloneEnd) : Type 0 where
  pub session : end.session ≡ r.table.session
  pub checkpoint : end.checkpoint ≡ r.checkpoint
  pub lsn : end.lsn ≡ r.lsn
  pub position : end.position ≡ r.position
