-- Where the three stages stand in which something is copied. Each begins where the one before it is
-- completed.
use Rattle.clone_progress.specs.declared.progress.Copied.{Copied}
use Rattle.clone_progress.specs.declared.progress.Copied.TheVariants.{Nothing, Files, Pages, Redo}
use Rattle.clone_progress.specs.declared.progress.Copied.TheVariants.{All}
use Rattle.clone_progress.specs.declared.progress.CopyState.{CopyState}
use Rattle.clone_progress.specs.declared.progress.CopyState.TheVariants.{NotStarted, InProgress}
use Rattle.clone_progress.specs.declared.progress.CopyState.TheVariants.{Completed}

abbrev pub file_copy : Copied → CopyState
file_copy Nothing = NotStarted
file_copy (Files finished chunks) = InProgress finished chunks
file_copy (Pages files finished chunks) = Completed files
file_copy (Redo files pages finished chunks) = Completed files
file_copy (All files pages redo) = Completed files

abbrev pub page_copy : Copied → CopyState
page_copy Nothing = NotStarted
page_copy (Files finished chunks) = NotStarted
page_copy (Pages files finished chunks) = InProgress finished chunks
page_copy (Redo files pages finished chunks) = Completed pages
page_copy (All files pages redo) = Completed pages

abbrev pub redo_copy : Copied → CopyState
redo_copy Nothing = NotStarted
redo_copy (Files finished chunks) = NotStarted
redo_copy (Pages files finished chunks) = NotStarted
redo_copy (Redo files pages finished chunks) = InProgress finished chunks
redo_copy (All files pages redo) = Completed redo
