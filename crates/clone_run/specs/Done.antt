-- What the jobs of a run have done, job by job.
use Rattle.std.specs.Prelude.{ℕ, zero, suc, ◌≡◌, ◌+◌, ◌-◌, List, [], ◌∷◌, ◌++◌, None}
use Rattle.clone_outside.specs.declared.link.Link.{Ghosts as Link}
use Rattle.clone_turn.specs.Runs.{calls}
use Rattle.clone_turn.specs.Worked.{Makes}
use Rattle.clone_machine.specs.Running.{JobEntry}
use Rattle.clone_machine.specs.declared.calls.JobAnswer.TheVariants as job_answer
use Rattle.clone_machine.specs.declared.calls.JobCall.TheVariants as job
use Rattle.clone_links.specs.Calling.{IsOneCall, JobSeat}
use Rattle.clone_desk.specs.Steps.{DeskEntry}
use Rattle.clone_copying.specs.Calls.{FetcherModel, RecipientEntry, RecipientSeat}
use Rattle.clone_copying.specs.Connecting.{DeskSeat}
use Rattle.clone_copying.specs.declared.fetch_end.FetchEnd.{FetchEnd}
use Rattle.clone_writer.specs.Writers.{Writer, starting}
use Rattle.clone_jobs.specs.Said.{said_in}
use Rattle.clone_jobs.specs.Upkeep.{IsUpkeep}
use Rattle.clone_jobs.specs.Writing.{Writes}
use Rattle.clone_jobs.specs.declared.ending.Ending.{Ending}
use Rattle.clone_jobs.specs.declared.upkeep.Upkeep.{Upkeep}
use Rattle.clone_jobs.specs.declared.upkeep.Upkeep.TheVariants as upkeep
use Rattle.clone_task_jobs.specs.Serving.{IsServing, Service}
use Rattle.clone_task_jobs.specs.Fetching.{FetchesTask}
use Rattle.clone_run.specs.declared.load.Load.{Load}
use Rattle.clone_run.specs.declared.outcome.Outcome.{Outcome}
use Rattle.clone_run.specs.Outcomes.{of_ending, of_none, of_writing, with_job, with_task}
use Rattle.clone_run.specs.Teams.{Gathered, Parts, Team, no_parts, with_donor, with_fetched, with_served}

-- a job, by what it is to do
pub data Job : Type 0 where
  Serves : (task : ℕ) → Job
  Keeps : Upkeep → Job
  Writes' : (number : ℕ) → Job
  Fetches : (task : ℕ) → Job

module _ {N L X R : Type 0} (link : Link L X) where
  -- what a task did that fetched, by its three seats
  pub record IsFetch (task : ℕ) (end : FetchEnd) (stepped : List (RecipientEntry R))
      (asked : List (DeskEntry N L)) (watched : List JobEntry) : Type 0 where
    pub fetcher : FetcherModel R
    pub new : fetcher ≡ record { seat = fetcher.seat; task = task; core = None; floor = 0 }
    pub seat : RecipientSeat R
    pub desk_old : DeskSeat N L
    pub desk_new : DeskSeat N L
    -- it had made no call there before
    pub fresh : calls desk_old.seen ≡ []
    pub watch_old : JobSeat
    pub watch_new : JobSeat
    pub does : FetchesTask link fetcher seat desk_old desk_new watch_old watch_new end
    pub steps : Makes fetcher.seat stepped seat
    pub asks : Makes desk_old asked desk_new
    pub watches : Makes watch_old watched watch_new

  -- THESE JOBS ARE DONE, one after the other, by these calls, and this came of them. Some calls let
  -- the run end.
  pub data AreDone (load : Load) : List Job → Parts N L R → Outcome → Type 0 where
    nothing : AreDone load [] no_parts of_none
    halts : (jobs : List Job) (p : Parts N L R) (o : Outcome) (made : List JobEntry)
        → AreDone load jobs p o → IsOneCall job.Halt job_answer.Halt made
        → AreDone load jobs (with_donor p made) o
    serves : (jobs : List Job) (p : Parts N L R) (o : Outcome) (task : ℕ) (end : Ending)
        (made : List JobEntry) (asked : List (DeskEntry N L)) (served : List (Service L))
        → AreDone load jobs p o → IsServing link task end made asked served
        → AreDone load (jobs ++ Serves task ∷ []) (with_served p made asked)
        (with_job o (of_ending end))
    keeps : (jobs : List Job) (p : Parts N L R) (o : Outcome) (work : Upkeep) (end : Ending)
        (made : List JobEntry) → AreDone load jobs p o → IsUpkeep work end (said_in made)
        → AreDone load (jobs ++ Keeps work ∷ []) (with_donor p made) (with_job o (of_ending end))
    writes : (jobs : List Job) (p : Parts N L R) (o : Outcome) (number : ℕ) (end : Ending)
        (made : List JobEntry) (w : Writer) → AreDone load jobs p o
        → Writes end (starting load.seed number load.tables load.transactions) (said_in made) w
        → AreDone load (jobs ++ Writes' number ∷ []) (with_donor p made)
        (with_job o (of_writing end))
    fetches : (jobs : List Job) (p : Parts N L R) (o : Outcome) (task : ℕ) (end : FetchEnd)
        (stepped : List (RecipientEntry R)) (asked : List (DeskEntry N L))
        (watched : List JobEntry) → AreDone load jobs p o
        → IsFetch task end stepped asked watched
        → AreDone load (jobs ++ Fetches task ∷ []) (with_fetched p stepped asked watched)
        (with_task o end)

  -- the team's jobs did these, of which this came
  abbrev pub DoneBy : List Job → Outcome → Team N L R → Team N L R → Type 0
  DoneBy jobs o s t = (p : Parts N L R) × AreDone s.load jobs p o × Gathered p s t

-- ---- THE JOBS OF A RUN, in the order in which they end: of the tasks and writers the last first

-- so many tasks from this one on, the last first
abbrev pub last_first : (ℕ → Job) → ℕ → ℕ → List Job
last_first job zero first = []
last_first job (suc n) first = last_first job n (first + 1) ++ job first ∷ []

abbrev pub fetched_from : Load → ℕ → List Job
fetched_from load task = last_first Fetches (load.tasks - task) task

abbrev pub written_from : Load → ℕ → List Job
written_from load number =
    fetched_from load 0 ++ last_first Writes' (load.writers - number) number

-- what keeps the donor going from this number on, in the order in which it ends
abbrev pub upkeep_from : ℕ → List Job
upkeep_from zero = Keeps upkeep.Archiver ∷ Keeps upkeep.Checkpointer ∷ Keeps upkeep.Flusher ∷ []
upkeep_from (suc zero) = Keeps upkeep.Archiver ∷ Keeps upkeep.Checkpointer ∷ []
upkeep_from (suc (suc zero)) = Keeps upkeep.Archiver ∷ []
upkeep_from (suc (suc (suc n))) = []

abbrev pub kept_up_from : Load → ℕ → List Job
kept_up_from load number = written_from load 0 ++ upkeep_from number

abbrev pub served_from : Load → ℕ → List Job
served_from load task = kept_up_from load 0 ++ last_first Serves (load.tasks - task) task
