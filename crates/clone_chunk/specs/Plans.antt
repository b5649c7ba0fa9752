-- What a donor says of a stage: the stage, the number of its chunks, where the redo begins and
-- ends, the position, and the spaces. A number that a stage doesn't have is 0.
use Rattle.std.specs.Prelude.{ℕ, List, [], map}
use Rattle.clone_chunk.specs.declared.stage.Stage.{Stage}
use Rattle.clone_chunk.specs.declared.stage.Stage.TheVariants as stage
use Rattle.clone_chunk.specs.declared.spaces.SpaceSize.{SpaceSize}
use Rattle.clone_chunk.specs.declared.plan.StagePlan.{StagePlan}
use Rattle.clone_chunk.specs.declared.plan.StagePlan.TheVariants.{FileCopy, PageCopy, RedoCopy}
use Rattle.clone_chunk.specs.declared.plan.StagePlan.TheVariants.{Done}

abbrev pub stage_of : StagePlan → Stage
stage_of (FileCopy chunks spaces) = stage.FileCopy
stage_of (PageCopy chunks position spaces) = stage.PageCopy
stage_of (RedoCopy chunks checkpoint lsn position) = stage.RedoCopy
stage_of (Done checkpoint lsn position) = stage.Done

abbrev pub chunks_of : StagePlan → ℕ
chunks_of (FileCopy chunks spaces) = chunks
chunks_of (PageCopy chunks position spaces) = chunks
chunks_of (RedoCopy chunks checkpoint lsn position) = chunks
chunks_of (Done checkpoint lsn position) = 0

abbrev pub checkpoint_of : StagePlan → ℕ
checkpoint_of (FileCopy chunks spaces) = 0
checkpoint_of (PageCopy chunks position spaces) = 0
checkpoint_of (RedoCopy chunks checkpoint lsn position) = checkpoint
checkpoint_of (Done checkpoint lsn position) = checkpoint

abbrev pub lsn_of : StagePlan → ℕ
lsn_of (FileCopy chunks spaces) = 0
lsn_of (PageCopy chunks position spaces) = 0
lsn_of (RedoCopy chunks checkpoint lsn position) = lsn
lsn_of (Done checkpoint lsn position) = lsn

abbrev pub position_of : StagePlan → ℕ
position_of (FileCopy chunks spaces) = 0
position_of (PageCopy chunks position spaces) = position
position_of (RedoCopy chunks checkpoint lsn position) = position
position_of (Done checkpoint lsn position) = position

abbrev pub spaces_of : StagePlan → List SpaceSize
spaces_of (FileCopy chunks spaces) = spaces
spaces_of (PageCopy chunks position spaces) = spaces
spaces_of (RedoCopy chunks checkpoint lsn position) = []
spaces_of (Done checkpoint lsn position) = []

-- spaces, of each its number and how many pages it has
abbrev pub sizes_of : List (ℕ × ℕ) → List SpaceSize
sizes_of spaces = map (λ s. record { space = s.0; pages = s.1 }) spaces
