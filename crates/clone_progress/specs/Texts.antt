-- The text of how far a clone is: a line for the clone, and then one for each stage in its order.
use Rattle.std.specs.Prelude.{ℕ, Bool, true, false, List, ◌++◌, codes, if◌then◌else◌}
use Rattle.std.specs.Fmt.{decimal}
use Rattle.clone_model.specs.Texts.{ended}
use Rattle.clone_progress.specs.declared.progress.CloneStatus.{CloneStatus}
use Rattle.clone_progress.specs.declared.progress.CloneStatus.TheVariants as status
use Rattle.clone_progress.specs.declared.progress.CopyState.{CopyState}
use Rattle.clone_progress.specs.declared.progress.CopyState.TheVariants as copy
use Rattle.clone_progress.specs.declared.progress.Progress.{Progress}
use Rattle.clone_progress.specs.Copies.{file_copy, page_copy, redo_copy}

abbrev pub completed_line : ℕ → ℕ → List ℕ
completed_line lsn position =
    ended (codes "status Completed lsn " ++ decimal lsn ++ codes " position " ++ decimal position)

abbrev pub status_line : CloneStatus → List ℕ
status_line status.NotStarted = ended (codes "status Not Started")
status_line status.InProgress = ended (codes "status In Progress")
status_line status.Failed = ended (codes "status Failed")
status_line (status.Completed lsn position) = completed_line lsn position

-- a stage in which nothing is copied is completed at once
abbrev pub stage_line : List ℕ → Bool → List ℕ
stage_line name done =
    ended (name ++ (if done then codes " Completed" else codes " Not Started"))

-- a stage that was begun has the numbers of its finished chunks and of all of them
abbrev pub counts_line : List ℕ → ℕ → ℕ → List ℕ
counts_line name finished chunks =
    ended (name ++ codes " In Progress " ++ decimal finished ++ codes "/" ++ decimal chunks)

abbrev pub copy_line : List ℕ → CopyState → List ℕ
copy_line name copy.NotStarted = stage_line name false
copy_line name (copy.InProgress finished chunks) = counts_line name finished chunks
copy_line name (copy.Completed chunks) =
    ended (name ++ codes " Completed " ++ decimal chunks ++ codes "/" ++ decimal chunks)

-- the recipient was empty, so nothing of it is dropped once the clone is begun
abbrev pub is_begun : CloneStatus → Bool
is_begun status.NotStarted = false
is_begun status.InProgress = true
is_begun status.Failed = true
is_begun (status.Completed lsn position) = true

-- THE TEXT
abbrev pub progress_text : Progress → List ℕ
progress_text p =
    status_line p.status
    ++ stage_line (codes "DROP DATA") (is_begun p.status)
    ++ copy_line (codes "FILE COPY") (file_copy p.copied)
    ++ copy_line (codes "PAGE COPY") (page_copy p.copied)
    ++ copy_line (codes "REDO COPY") (redo_copy p.copied)
    ++ stage_line (codes "FILE SYNC") p.synced
    ++ stage_line (codes "RESTART") p.recovered
    ++ stage_line (codes "RECOVERY") p.recovered
