-- What comes of the jobs of a run: how the clone was completed, and the failure that counts.
use Rattle.std.specs.Prelude.{ℕ, ◌≡◌, true, false, nat_lt, if◌then◌else◌, None, Some, ⊤}
use Rattle.std.specs.declared.option.Option.{Option}
use Rattle.clone_outside.specs.declared.Refusal.{Refusal}
use Rattle.clone_outside.specs.declared.Refusal.TheVariants as refused
use Rattle.clone_copying.specs.declared.fetch_end.FetchEnd.{FetchEnd}
use Rattle.clone_copying.specs.declared.fetch_end.FetchEnd.TheVariants as fetch
use Rattle.clone_fetching.specs.declared.clone_ended.CloneEnded.{CloneEnded}
use Rattle.clone_fetching.specs.declared.clone_ended.CloneEnded.TheVariants as ended
use Rattle.clone_jobs.specs.declared.ending.Ending.{Ending}
use Rattle.clone_jobs.specs.declared.ending.Ending.TheVariants as ending
use Rattle.clone_run.specs.declared.failure.Failure.{Failure}
use Rattle.clone_run.specs.declared.failure.Failure.TheVariants as failure
use Rattle.clone_run.specs.declared.outcome.Cloned.{Cloned}
use Rattle.clone_run.specs.declared.outcome.Outcome.{Outcome}

-- THE ORDER OF CAUSES: where several are met, the first one counts
abbrev pub rank : Failure → ℕ
rank failure.Memory = 0
rank failure.Thread = 1
rank failure.Connection = 1
rank failure.DonorDisk = 2
rank failure.RecipientDisk = 3
rank (failure.Garbled kept) = 4
rank (failure.Refused cause) = 5
rank (failure.Spent losses) = 6
rank failure.NotEmpty = 7
rank failure.Halted = 8

-- the one that counts of two
abbrev pub first_of : Option Failure → Option Failure → Option Failure
first_of None other = other
first_of (Some one) None = Some one
first_of (Some one) (Some other) = if nat_lt (rank other) (rank one) then Some other else Some one

-- of a job that wasn't started
abbrev pub of_start : Refusal → Failure
of_start refused.Fault = failure.Thread
of_start refused.NoMemory = failure.Memory

-- that with which a job ended that goes on until the run is halted, if it ended with one
abbrev pub of_ending : Ending → Option Failure
of_ending ending.Done = None
of_ending ending.Halted = None
of_ending ending.DiskFault = Some failure.DonorDisk
of_ending ending.NoMemory = Some failure.Memory

-- that with which a writer ended before its last commit, if it did
abbrev pub of_writing : Ending → Option Failure
of_writing ending.Done = None
of_writing ending.Halted = Some failure.Halted
of_writing ending.DiskFault = Some failure.DonorDisk
of_writing ending.NoMemory = Some failure.Memory

-- that with which a clone ended before it was complete, if it did
abbrev pub of_clone : CloneEnded → Option Failure
of_clone (ended.Complete lsn position floor) = None
of_clone (ended.Spent losses) = Some (failure.Spent losses)
of_clone (ended.Garbled kept) = Some (failure.Garbled kept)
of_clone (ended.Refused cause) = Some (failure.Refused cause)
of_clone ended.DiskFault = Some failure.RecipientDisk

abbrev pub of_fetch : FetchEnd → Option Failure
of_fetch (fetch.Ended how) = of_clone how
of_fetch fetch.NetFault = Some failure.Connection
of_fetch fetch.Halted = Some failure.Halted
of_fetch fetch.NoMemory = Some failure.Memory

-- how the clone was completed, if a task ended with that
abbrev pub completed : FetchEnd → Option Cloned
completed (fetch.Ended (ended.Complete lsn position floor)) =
    Some (record { lsn = lsn; position = position; floor = floor })
completed other = None

-- ---- what came of jobs

abbrev pub of_none : Outcome
of_none = record { cloned = None; failure = None; whole = true }

-- a job wasn't started, and its seats are gone
abbrev pub of_unstarted : Failure → Outcome
of_unstarted why = record { cloned = None; failure = Some why; whole = false }

-- there was no memory for a job, or no thread
abbrev pub IsUnstarted : Option Failure → Type 0
IsUnstarted (Some failure.Memory) = ⊤
IsUnstarted (Some failure.Thread) = ⊤
IsUnstarted other = ⊥

-- with what came of one job more
abbrev pub with_job : Outcome → Option Failure → Outcome
with_job o failure = record o { failure = first_of o.failure failure }

abbrev pub with_task : Outcome → FetchEnd → Outcome
with_task o end =
    record o { cloned = completed end; failure = first_of o.failure (of_fetch end) }
