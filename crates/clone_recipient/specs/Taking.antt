-- WHAT A TAKEN ANSWER CHANGES.
use Rattle.std.specs.Prelude.{ℕ, ◌≡◌, Bool, true, false, List, map, option_map, Some}
use Rattle.std.specs.declared.option.Option.{Option}
use Rattle.clone_outside.specs.Disk.{DiskImage, Steps}
use Rattle.clone_lay.specs.Laid.{laid_pages}
use Rattle.clone_lay.specs.Laid as lay
use Rattle.clone_lay.specs.Redo.{laid_redo}
use Rattle.clone_chunk.specs.declared.copy_stage.CopyStage.TheVariants as copy
use Rattle.clone_chunk.specs.declared.plan.StagePlan.{StagePlan}
use Rattle.clone_chunk.specs.declared.plan.StagePlan.TheVariants.{FileCopy, PageCopy, RedoCopy}
use Rattle.clone_chunk.specs.declared.plan.StagePlan.TheVariants.{Done}
use Rattle.clone_snapshot.specs.StageLists.{Files, Redo}
use Rattle.clone_accepted.specs.Answers.{Told, ToldFiles, ToldPages, ToldRedo, ToldDone}
use Rattle.clone_accepted.specs.Disk.{distance_of, with_told}
use Rattle.clone_marks.specs.Counts.{block_counts, counted_pages, pairs_of, unmarked}
use Rattle.clone_page.specs.declared.pages.PageAt.{PageAt}
use Rattle.clone_wire.specs.declared.frame.Frame.{Frame}
use Rattle.clone_wire.specs.declared.frame.Frame.TheVariants as frame
use Rattle.clone_wire.specs.Spelling.{code_of}
use Rattle.clone_marks.specs.Blocks.{AreAllTaken}
use Rattle.clone_tasks.specs.Awaiting.{is_opening, moves}
use Rattle.clone_tasks.specs.Moves.{HasTaken, begins, joined_by, served}
use Rattle.clone_tasks.specs.Tables.{Table}
use Rattle.clone_tasks.specs.declared.end.CloneEnd.TheVariants as end
use Rattle.clone_tasks.specs.declared.standing.Phase.TheVariants as phase
use Rattle.clone_recipient.specs.declared.took.Took.{Took}
use Rattle.clone_recipient.specs.Receptions.{Reception}

-- ---- a STAGE

abbrev pub told_by : StagePlan → Told
told_by (FileCopy chunks spaces) = ToldFiles (pairs_of spaces)
told_by (PageCopy chunks position spaces) = ToldPages position (pairs_of spaces)
told_by (RedoCopy chunks checkpoint lsn position) = ToldRedo checkpoint lsn position
told_by (Done checkpoint lsn position) = ToldDone

-- the table, once task 0 took a STAGE that moves the recipient: none of the stage's blocks was
-- taken
abbrev pub table_after : StagePlan → Table → Table
table_after (FileCopy chunks spaces) t =
    begins (phase.Copying copy.FileCopy) (unmarked (block_counts (Files (pairs_of spaces)))) t
table_after (PageCopy chunks position spaces) t =
    begins (phase.Copying copy.PageCopy) (unmarked (block_counts (counted_pages position))) t
table_after (RedoCopy chunks checkpoint lsn position) t =
    begins (phase.Copying copy.RedoCopy) (unmarked (block_counts (Redo checkpoint lsn))) t
table_after (Done checkpoint lsn position) t = begins phase.Done t.marks t

-- what is told of a stage is kept
abbrev pub with_plan : StagePlan → Reception → Reception
with_plan (FileCopy chunks spaces) r = record r { files = pairs_of spaces }
with_plan (PageCopy chunks position spaces) r = record r { pages = position }
with_plan (RedoCopy chunks checkpoint lsn position) r = record r {
  checkpoint = checkpoint;
  lsn = lsn;
  position = position;
}
with_plan (Done checkpoint lsn position) r = r

-- the recipient comes to the stage
abbrev pub moved_by : StagePlan → Reception → Reception
moved_by plan r = record (with_plan plan r) { table = table_after plan r.table }

-- A STAGE moves the recipient, where each block of the stage before was taken, or leaves it where
-- it is.
abbrev pub TakesStage : Bool → StagePlan → ℕ → Reception → Reception
    → Option DiskImage → Option DiskImage → Type 0
TakesStage true plan task old new told now =
    (new ≡ record (moved_by plan old) { sizes = new.sizes })
    × Steps told now (with_told (told_by plan))
    × (is_opening old.table.phase ≡ false → AreAllTaken old.table.marks)
TakesStage false plan task old new told now =
    (new ≡ record old { table = joined_by old.table task }) × (now ≡ told)

-- THE MARK of a disk that tells what it holds is as it was: a copy that isn't complete stays one
abbrev pub KeepsMark : Option DiskImage → Option DiskImage → Type 0
KeepsMark told now = option_map (λ m. m.mark) now ≡ option_map (λ m. m.mark) told

-- ---- a block

-- pages, each with its place
abbrev pub laid_at : List PageAt → List lay.PageAt
laid_at pages =
    map (λ p. record { space = p.space; number = p.number; bytes = p.page }) pages

-- one block more was taken, and the sizes are those of the disk
pub record HasMarked (chunk block : ℕ) (old new : Reception) : Type 0 where
  pub table : HasTaken old.table chunk block new.table
  pub else_same : new ≡ record old { table = new.table; sizes = new.sizes }

-- ---- AN ANSWER IS TAKEN: what it says is on the disk, and in what is known of the clone
abbrev pub Takes : Frame → ℕ → Reception → Reception → Option DiskImage → Option DiskImage → Type 0
Takes (frame.Init attempt version page_size compressed tasks) task old new told now = ⊥
Takes (frame.Attach attempt other) task old new told now = ⊥
Takes (frame.Reinit attempt stage finished) task old new told now = ⊥
Takes (frame.Reinit2 attempt stage taken) task old new told now = ⊥
Takes (frame.Execute stage) task old new told now = ⊥
Takes (frame.Ack stage floor) task old new told now = ⊥
Takes frame.Exit task old new told now = ⊥
Takes (frame.Stage attempt plan) task old new told now =
    TakesStage (moves old.table task) plan task old new told now
Takes (frame.Pages attempt stage chunk block pages) task old new told now =
    HasMarked chunk block old new × Steps told now (laid_pages (laid_at pages))
Takes (frame.Redo attempt chunk block from bytes) task old new told now =
    HasMarked chunk block old new × Steps told now (laid_redo (distance_of chunk block) bytes)
Takes (frame.End attempt stage) task old new told now =
    (new ≡ record old { table = served old.table task }) × (now ≡ told)
Takes (frame.Refused cause) task old new told now =
    (new ≡ record old { table = record old.table { ended = Some (end.Refused cause) } })
    × (now ≡ told)

-- ---- what is answered of it: its code, and the block that it has, if it has one

abbrev pub chunk_in : Frame → ℕ
chunk_in (frame.Pages attempt stage chunk block pages) = chunk
chunk_in (frame.Redo attempt chunk block from bytes) = chunk
chunk_in (frame.Init attempt version page_size compressed tasks) = 0
chunk_in (frame.Attach attempt task) = 0
chunk_in (frame.Reinit attempt stage finished) = 0
chunk_in (frame.Reinit2 attempt stage taken) = 0
chunk_in (frame.Execute stage) = 0
chunk_in (frame.Ack stage floor) = 0
chunk_in frame.Exit = 0
chunk_in (frame.Stage attempt plan) = 0
chunk_in (frame.End attempt stage) = 0
chunk_in (frame.Refused cause) = 0

abbrev pub block_in : Frame → ℕ
block_in (frame.Pages attempt stage chunk block pages) = block
block_in (frame.Redo attempt chunk block from bytes) = block
block_in (frame.Init attempt version page_size compressed tasks) = 0
block_in (frame.Attach attempt task) = 0
block_in (frame.Reinit attempt stage finished) = 0
block_in (frame.Reinit2 attempt stage taken) = 0
block_in (frame.Execute stage) = 0
block_in (frame.Ack stage floor) = 0
block_in frame.Exit = 0
block_in (frame.Stage attempt plan) = 0
block_in (frame.End attempt stage) = 0
block_in (frame.Refused cause) = 0

abbrev pub took_of : Frame → Took
took_of frame =
    record { code = code_of frame; chunk = chunk_in frame; block = block_in frame }
