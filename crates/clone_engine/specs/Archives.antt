-- The archive of a donor, and its log.
use Rattle.std.specs.Prelude.{◌≡◌, ◌≤◌, ◌-◌, List, length, take, drop}
use Rattle.clone_mtr.specs.declared.record.Record.{Record}
use Rattle.clone_mtr.specs.Spelling.{log_of}
use Rattle.clone_image.specs.Replay.{first_lsn}
use Rattle.clone_law.specs.Since.{ends}
use Rattle.clone_archive.specs.Archived.{Archived, archived_of}

-- The archived bytes are those of the log from the archive's start on.
pub record IsOfLog (log : List (List Record)) (a : Archived) : Type 0 where
  pub start : first_lsn ≤ a.start
  pub within : archived_of a ≤ ends log
  pub bytes : a.bytes ≡ take (length a.bytes) (drop (a.start - first_lsn) (log_of log))
