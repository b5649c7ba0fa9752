-- The numbers of the stages, and of those in which something is copied.
use Rattle.std.specs.Prelude.{ℕ, ◌==◌, if◌then◌else◌}
use Rattle.clone_chunk.specs.declared.stage.Stage.{Stage}
use Rattle.clone_chunk.specs.declared.stage.Stage.TheVariants.{FileCopy, PageCopy, RedoCopy, Done}
use Rattle.clone_chunk.specs.declared.copy_stage.CopyStage.{CopyStage}
use Rattle.clone_chunk.specs.declared.copy_stage.CopyStage.TheVariants as copy

abbrev pub stage_number : Stage → ℕ
stage_number FileCopy = 1
stage_number PageCopy = 2
stage_number RedoCopy = 3
stage_number Done = 4

abbrev pub copy_number : CopyStage → ℕ
copy_number copy.FileCopy = 1
copy_number copy.PageCopy = 2
copy_number copy.RedoCopy = 3

-- the stage of a number from 1 to 3
abbrev pub copy_numbered : ℕ → CopyStage
copy_numbered n =
    if n == 1 then copy.FileCopy else (if n == 2 then copy.PageCopy else copy.RedoCopy)

-- a stage in which something is copied, among all stages
abbrev pub copying : CopyStage → Stage
copying copy.FileCopy = FileCopy
copying copy.PageCopy = PageCopy
copying copy.RedoCopy = RedoCopy
