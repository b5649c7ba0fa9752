-- The texts of the causes, without the line feed after them.
use Rattle.std.specs.Prelude.{ℕ, List, ◌++◌, codes}
use Rattle.std.specs.Fmt.{decimal}
use Rattle.clone_chunk.specs.declared.cause.CloneCause.{CloneCause}
use Rattle.clone_chunk.specs.declared.cause.CloneCause.TheVariants.{Busy, VersionMismatch}
use Rattle.clone_chunk.specs.declared.cause.CloneCause.TheVariants.{PageSizeMismatch}
use Rattle.clone_chunk.specs.declared.cause.CloneCause.TheVariants.{CompressionRefused}
use Rattle.clone_chunk.specs.declared.cause.CloneCause.TheVariants.{TasksOutOfRange, NoSuchSession}
use Rattle.clone_chunk.specs.declared.cause.CloneCause.TheVariants.{Stale, StageMismatch}
use Rattle.clone_chunk.specs.declared.cause.CloneCause.TheVariants.{ChunksLeft, FloorAhead}
use Rattle.clone_chunk.specs.declared.cause.CloneCause.TheVariants.{NotClaimed, ArchiveBehind}

-- a cause by its number with its letter, and its values
abbrev pub cause_text : CloneCause → List ℕ
cause_text (Busy session) = codes "refused C1 " ++ decimal session
cause_text (VersionMismatch theirs) = codes "refused C2 " ++ decimal theirs
cause_text (PageSizeMismatch theirs) = codes "refused C3 " ++ decimal theirs
cause_text CompressionRefused = codes "refused C4"
cause_text (TasksOutOfRange tasks) = codes "refused C5 " ++ decimal tasks
cause_text NoSuchSession = codes "refused C6"
cause_text (Stale incarnation) = codes "refused C7 " ++ decimal incarnation
cause_text (StageMismatch donor recipient) =
    codes "refused C8 " ++ decimal donor ++ codes " " ++ decimal recipient
cause_text (ChunksLeft count) = codes "refused C9 " ++ decimal count
cause_text (FloorAhead floor position) =
    codes "refused C10 " ++ decimal floor ++ codes " " ++ decimal position
cause_text NotClaimed = codes "refused C11"
cause_text (ArchiveBehind archived until) =
    codes "refused C12 " ++ decimal archived ++ codes " " ++ decimal until
