-- What a frame that is taken leaves: the chunks of the stage stay counted, and the clone goes on
-- unless it was refused.
use Rattle.std.proofs.Common.{ℕ, ◌≡◌, ◌∙◌, Bool, true, false, Option, None, Some, refl, sym, ap, subst}
use Rattle.clone_outside.specs.Disk.{DiskImage}
use Rattle.clone_lay.specs.Sized.{PageCounts}
use Rattle.clone_chunk.specs.declared.cause.CloneCause.{CloneCause}
use Rattle.clone_chunk.specs.declared.copy_stage.CopyStage.TheVariants as copy
use Rattle.clone_chunk.specs.declared.plan.StagePlan.{StagePlan}
use Rattle.clone_chunk.specs.declared.plan.StagePlan.TheVariants.{FileCopy, PageCopy, RedoCopy, Done}
use Rattle.clone_snapshot.specs.StageLists.{Files, Redo}
use Rattle.clone_marks.specs.Counts.{block_counts, counted_pages, pairs_of}
use Rattle.clone_marks.proofs.RunLemmas.{begun_blocks}
use Rattle.clone_wire.specs.declared.frame.Frame.{Frame}
use Rattle.clone_wire.specs.declared.frame.Frame.TheVariants as frame
use Rattle.clone_tasks.specs.Awaiting.{moves}
use Rattle.clone_tasks.specs.Moves.{joined_by, served}
use Rattle.clone_tasks.specs.Tables.{Table}
use Rattle.clone_tasks.specs.declared.end.CloneEnd.TheVariants as end
use Rattle.clone_tasks.specs.declared.standing.Phase.{Phase}
use Rattle.clone_tasks.specs.declared.standing.Phase.TheVariants as phase
use Rattle.clone_recipient.specs.Receptions.{AreCounted, Reception}
use Rattle.clone_recipient.specs.Taking.{HasMarked, Takes, TakesStage, moved_by, table_after}
use Rattle.clone_recipient.proofs.CountLemmas.{kept_counted}
use Rattle.clone_fetch.specs.Fetching.{refusal_in}

-- ---- the chunks

abbrev pub IsCounted : Reception → Type 0
IsCounted r = AreCounted r.table.phase r

-- the sizes of the disk's spaces have no part in it
sized_counted : (p : Phase) (r : Reception) (sizes : PageCounts) → AreCounted p r → AreCounted p (record r { sizes = sizes })
sized_counted phase.Opening r sizes are = are
sized_counted (phase.Copying copy.FileCopy) r sizes are = are
sized_counted (phase.Copying copy.PageCopy) r sizes are = are
sized_counted (phase.Copying copy.RedoCopy) r sizes are = are
sized_counted phase.Done r sizes are = are

-- a stage begins
moved_counted : (plan : StagePlan) (r : Reception) → IsCounted (moved_by plan r)
moved_counted (FileCopy chunks spaces) r = begun_blocks (block_counts (Files (pairs_of spaces)))
moved_counted (PageCopy chunks position spaces) r = begun_blocks (block_counts (counted_pages position))
moved_counted (RedoCopy chunks checkpoint lsn position) r = begun_blocks (block_counts (Redo checkpoint lsn))
moved_counted (Done checkpoint lsn position) r = tt

module _ (r s : Reception) (told now : Option DiskImage) where
  stage_counted : (goes : Bool) (plan : StagePlan) (task : ℕ) → TakesStage goes plan task r s told now → IsCounted r → IsCounted s
  stage_counted true plan task takes are =
      let moved : Reception = moved_by plan r in
      subst IsCounted (sym takes.0) (sized_counted moved.table.phase moved s.sizes (moved_counted plan r))
  stage_counted false plan task takes are = subst IsCounted (sym takes.0) (kept_counted r (joined_by r.table task) refl refl are)

  block_counted : (chunk block : ℕ) → HasMarked chunk block r s → IsCounted r → IsCounted s
  block_counted chunk block took are =
      let marked : AreCounted s.table.phase (record r { table = s.table }) = kept_counted r s.table (ap (λ (t : Table). t.phase) took.table.else_same) took.table.blocks are in
      subst (λ (x : Reception). AreCounted s.table.phase x) (sym took.else_same) (sized_counted s.table.phase (record r { table = s.table }) s.sizes marked)

  pub taken_counted : (got : Frame) (task : ℕ) → Takes got task r s told now → IsCounted r → IsCounted s
  taken_counted (frame.Stage attempt plan) task takes are = stage_counted (moves r.table task) plan task takes are
  taken_counted (frame.Pages attempt stage chunk block pages) task takes are = block_counted chunk block takes.0 are
  taken_counted (frame.Redo attempt chunk block from bytes) task takes are = block_counted chunk block takes.0 are
  taken_counted (frame.End attempt stage) task takes are = subst IsCounted (sym takes.0) (kept_counted r (served r.table task) refl refl are)
  taken_counted (frame.Refused cause) task takes are = subst IsCounted (sym takes.0) (kept_counted r (record r.table { ended = Some (end.Refused cause) }) refl refl are)
  taken_counted other task takes are = absurd takes

-- ---- how the clone ended

abbrev pub EndsBy : Option CloneCause → Reception → Reception → Type 0
EndsBy None r s = s.table.ended ≡ r.table.ended
EndsBy (Some cause) r s = s.table.ended ≡ Some (end.Refused cause)

moved_ended : (plan : StagePlan) (t : Table) → (table_after plan t).ended ≡ t.ended
moved_ended (FileCopy chunks spaces) t = refl
moved_ended (PageCopy chunks position spaces) t = refl
moved_ended (RedoCopy chunks checkpoint lsn position) t = refl
moved_ended (Done checkpoint lsn position) t = refl

module _ (r s : Reception) (told now : Option DiskImage) where
  stage_ended : (goes : Bool) (plan : StagePlan) (task : ℕ) → TakesStage goes plan task r s told now → s.table.ended ≡ r.table.ended
  stage_ended true plan task takes = ap (λ (x : Reception). x.table.ended) takes.0 ∙ moved_ended plan r.table
  stage_ended false plan task takes = ap (λ (x : Reception). x.table.ended) takes.0

  pub taken_ends : (got : Frame) (task : ℕ) → Takes got task r s told now → EndsBy (refusal_in got) r s
  taken_ends (frame.Stage attempt plan) task takes = stage_ended (moves r.table task) plan task takes
  taken_ends (frame.Pages attempt stage chunk block pages) task takes = ap (λ (t : Table). t.ended) takes.0.table.else_same
  taken_ends (frame.Redo attempt chunk block from bytes) task takes = ap (λ (t : Table). t.ended) takes.0.table.else_same
  taken_ends (frame.End attempt stage) task takes = ap (λ (x : Reception). x.table.ended) takes.0
  taken_ends (frame.Refused cause) task takes = ap (λ (x : Reception). x.table.ended) takes.0
  taken_ends other task takes = absurd takes
