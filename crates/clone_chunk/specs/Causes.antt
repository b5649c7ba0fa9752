-- The numbers and the values of the causes. A value that a cause doesn't have is 0.
use Rattle.std.specs.Prelude.{ℕ, ◌==◌, if◌then◌else◌}
use Rattle.clone_chunk.specs.declared.cause.CloneCause.{CloneCause}
use Rattle.clone_chunk.specs.declared.cause.CloneCause.TheVariants.{Busy, VersionMismatch}
use Rattle.clone_chunk.specs.declared.cause.CloneCause.TheVariants.{PageSizeMismatch}
use Rattle.clone_chunk.specs.declared.cause.CloneCause.TheVariants.{CompressionRefused}
use Rattle.clone_chunk.specs.declared.cause.CloneCause.TheVariants.{TasksOutOfRange, NoSuchSession}
use Rattle.clone_chunk.specs.declared.cause.CloneCause.TheVariants.{Stale, StageMismatch}
use Rattle.clone_chunk.specs.declared.cause.CloneCause.TheVariants.{ChunksLeft, FloorAhead}
use Rattle.clone_chunk.specs.declared.cause.CloneCause.TheVariants.{NotClaimed, ArchiveBehind}

abbrev pub cause_number : CloneCause → ℕ
cause_number (Busy session) = 1
cause_number (VersionMismatch theirs) = 2
cause_number (PageSizeMismatch theirs) = 3
cause_number CompressionRefused = 4
cause_number (TasksOutOfRange tasks) = 5
cause_number NoSuchSession = 6
cause_number (Stale incarnation) = 7
cause_number (StageMismatch donor recipient) = 8
cause_number (ChunksLeft count) = 9
cause_number (FloorAhead floor position) = 10
cause_number NotClaimed = 11
cause_number (ArchiveBehind archived until) = 12

abbrev pub cause_first : CloneCause → ℕ
cause_first (Busy session) = session
cause_first (VersionMismatch theirs) = theirs
cause_first (PageSizeMismatch theirs) = theirs
cause_first CompressionRefused = 0
cause_first (TasksOutOfRange tasks) = tasks
cause_first NoSuchSession = 0
cause_first (Stale incarnation) = incarnation
cause_first (StageMismatch donor recipient) = donor
cause_first (ChunksLeft count) = count
cause_first (FloorAhead floor position) = floor
cause_first NotClaimed = 0
cause_first (ArchiveBehind archived until) = archived

abbrev pub cause_second : CloneCause → ℕ
cause_second (Busy session) = 0
cause_second (VersionMismatch theirs) = 0
cause_second (PageSizeMismatch theirs) = 0
cause_second CompressionRefused = 0
cause_second (TasksOutOfRange tasks) = 0
cause_second NoSuchSession = 0
cause_second (Stale incarnation) = 0
cause_second (StageMismatch donor recipient) = recipient
cause_second (ChunksLeft count) = 0
cause_second (FloorAhead floor position) = position
cause_second NotClaimed = 0
cause_second (ArchiveBehind archived until) = until

-- the cause of a number from 1 to 12
abbrev pub cause_numbered : ℕ → ℕ → ℕ → CloneCause
cause_numbered n first second =
    if n == 1 then Busy first
    else (if n == 2 then VersionMismatch first
    else (if n == 3 then PageSizeMismatch first
    else (if n == 4 then CompressionRefused
    else (if n == 5 then TasksOutOfRange first
    else (if n == 6 then NoSuchSession
    else (if n == 7 then Stale first
    else (if n == 8 then StageMismatch first second
    else (if n == 9 then ChunksLeft first
    else (if n == 10 then FloorAhead first second
    else (if n == 11 then NotClaimed
    else ArchiveBehind first second))))))))))
