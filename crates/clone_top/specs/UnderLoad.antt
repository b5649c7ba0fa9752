-- A CLONE UNDER LOAD: what `run` does with its disks, its net and its crew, and what it says of that.
use Rattle.std.specs.Prelude.{ℕ, ◌≡◌, ◌⊎◌, ◌++◌, Bool, true, false, List, [], None, Some, IsSome, Vec, codes, take}
use Rattle.std.specs.declared.alloc.Global.{Global}
use Rattle.std.specs.declared.option.Option.{Option}
use Rattle.clone_outside.specs.Bytes.{appended, TakesSome}
use Rattle.clone_outside.specs.Causes.{Rose}
use Rattle.clone_outside.specs.Disk.{DiskImage}
use Rattle.clone_outside.specs.DiskCalls.{DiskState}
use Rattle.clone_outside.specs.declared.link.Link.{Ghosts as Link}
use Rattle.clone_outside.specs.declared.link.Net.{Ghosts as Net}
use Rattle.clone_model.specs.History.{Row, Rows, fold, history_of, rows_in}
use Rattle.clone_model.specs.Texts.{binlog_text, ended}
use Rattle.clone_model.specs.declared.change.Commit.{Commit}
use Rattle.clone_model.specs.declared.config.Config.{Config}
use Rattle.clone_plain.specs.Answers.{Text}
use Rattle.clone_plain.specs.Donor as plain
use Rattle.clone_recover.specs.Restores.{Answers, ForStep}
use Rattle.clone_recover.specs.declared.recovery.Recovered.{Recovered}
use Rattle.clone_dump.specs.Shown.{ShowsRecovered}
use Rattle.clone_summary.specs.Summary.{report_text, summary_text}
use Rattle.clone_chunk.specs.declared.cause.CloneCause.{CloneCause}
use Rattle.clone_tasks.specs.declared.end.CloneEnd.TheVariants as end
use Rattle.clone_answers.specs.StepTexts.{end_text, garbled_text}
use Rattle.clone_events.specs.Events.{recipient_fault}
use Rattle.clone_engine.specs.Disks.{Visits}
use Rattle.clone_engine.specs.Donor.{Donor}
use Rattle.clone_run.specs.Beginning.{Unbegun}
use Rattle.clone_run.specs.Outcomes.{IsUnstarted}
use Rattle.clone_run.specs.Ran.{Begin, HaveRun, Leave, Shared}
use Rattle.clone_run.specs.declared.failure.Failure.{Failure}
use Rattle.clone_run.specs.declared.failure.Failure.TheVariants as failure
use Rattle.clone_run.specs.declared.load.Load.{Load}
use Rattle.clone_run.specs.declared.outcome.Cloned.{Cloned}
use Rattle.clone_run.specs.declared.outcome.Outcome.{Outcome}
use Rattle.clone_run.specs.declared.run.TheConstants.{SESSION, VERSION}
use Rattle.clone_written.specs.Commits.{HasAllCommits, HasCommits}
use Rattle.clone_loaded.specs.Loaded.{AreCounted, IsMoment, TellsAll}
use Rattle.clone_words.specs.declared.command.Run.{Run}
use Rattle.clone_top.specs.Causes.{FailsDonor, IsAlone, Looks, LooksAtBoth, OpensAtMost, WereNotEmpty}
use Rattle.clone_top.specs.Ends.{AreEmpty, Disks, End, Ends, Means, Streams}
use Rattle.clone_top.specs.Looking.{IsNewDonor}
use Rattle.clone_top.specs.Recovering.{IsDue, Showing}
use Rattle.clone_top.specs.Saying.{Says}
use Rattle.clone_top.specs.declared.status.Status.{Status}
use Rattle.clone_top.specs.declared.status.Status.TheVariants.{Done, Memory, SinkFault, DonorFault, RecipientFault, RestartsSpent, Garbled, Refused, NotEmpty, CrewFault}

-- ---- what is asked for

-- the sizes that the options ask for
abbrev pub config_of : Run → Config
config_of run = record { pool = run.pool; ring = run.ring }

-- the load that they ask for
abbrev pub load_of : Run → Load
load_of run = record {
  seed = run.seed;
  writers = run.writers;
  transactions = run.transactions;
  tables = run.tables;
  buckets = run.buckets;
  tasks = run.tasks;
  limit = run.limit;
  cuts = run.cuts;
}

-- ---- what is said of it

-- WHY A CLONE FAILED, by the status that is for it, and the text that says so
abbrev pub FailsBy : Status → Failure → Text → Type 0
FailsBy CrewFault why text =
    ((why ≡ failure.Thread) ⊎ (why ≡ failure.Connection)) × (text ≡ codes "crew fault")
FailsBy DonorFault why text = (why ≡ failure.DonorDisk) × (text ≡ codes "donor disk fault")
FailsBy RecipientFault why text = (why ≡ failure.RecipientDisk) × (text ≡ recipient_fault)
FailsBy Garbled why text =
    (kept : Vec ℕ Global) × (why ≡ failure.Garbled kept) × (text ≡ garbled_text kept.items)
FailsBy Refused why text = (cause : CloneCause) × (why ≡ failure.Refused cause)
    × (text ≡ end_text (end.Refused cause))
FailsBy RestartsSpent why text = (losses : ℕ) × (why ≡ failure.Spent losses)
    × (text ≡ end_text (end.Spent losses))
FailsBy NotEmpty why text = (why ≡ failure.NotEmpty) × (text ≡ codes "not empty")
FailsBy status why text = ⊥

-- That is said, alone, or as far as memory and the sink allowed; or memory ran out before anything
-- was said.
pub data SaysFailure (why : Failure) (status : Status) (out out_new : End) : Type 0 where
  said : (due : Status) (text : Text) → FailsBy due why text
      → Says due status out out_new (ended text) → SaysFailure why status out out_new
  silent : status ≡ Memory → out_new.told ≡ out.told → SaysFailure why status out out_new

-- The disk is recovered. The text is the report on it where one is asked for, with the rows of the
-- recovered disk, and else there is none.
abbrev pub Reports : Bool → Cloned → Showing
Reports false cloned old new text =
    (numbers : Recovered) × ForStep old new (λ m n. Answers m n numbers) × (text ≡ [])
Reports true cloned old new text =
    (rows : Rows) × ForStep old new (λ m n. ShowsRecovered m n (rows_in rows))
    × (text ≡ report_text cloned.lsn cloned.position cloned.floor (rows_in rows))

-- The disk is recovered, and the text is the summary of the run, and the report.
abbrev pub SaysComplete : Run → Cloned → List Commit → Showing
SaysComplete run cloned commits old new text =
    (report : Text) × Reports run.report cloned old new report
    × (text ≡ summary_text run.seed run.writers run.transactions commits cloned.position
    cloned.floor ++ report)

-- a front of the output was written, or all of it and then a front of the binlog
pub data WritesFront (text log : Text) (out out_new binlog binlog_new : Option Text)
    : Type 0 where
  in_out : TakesSome out out_new text → binlog_new ≡ binlog
      → WritesFront text log out out_new binlog binlog_new
  in_binlog : out_new ≡ appended out text → TakesSome binlog binlog_new log
      → WritesFront text log out out_new binlog binlog_new

-- the output and then the binlog were written; or memory ran out, or a sink failed
abbrev pub WritesBoth : Status → Streams → Streams → (text log : Text) → Type 0
WritesBoth Done old new text log =
    (new.out.told ≡ appended old.out.told text)
    × (new.binlog.told ≡ appended old.binlog.told log)
WritesBoth Memory old new text log =
    WritesFront text log old.out.told new.out.told old.binlog.told new.binlog.told
WritesBoth SinkFault old new text log =
    (Rose old.out.faults new.out.faults ⊎ Rose old.binlog.faults new.binlog.faults)
    × WritesFront text log old.out.told new.out.told old.binlog.told new.binlog.told
WritesBoth status old new text log = ⊥

-- what is due is written: where the clone was recovered, with the binlog after it
abbrev pub Writes : (due status : Status) → Streams → Streams → (text log : Text) → Type 0
Writes Done status old new text log = WritesBoth status old new text log
Writes due status old new text log =
    Says due status old.out new.out text × (new.binlog.told ≡ old.binlog.told)

-- HOW A RUN IS CONCLUDED by what came of its jobs. The clone failed, and why is said. Or it was
-- completed, and recovering it gives the status that is due and the text that says so; or memory
-- ran out before anything was said.
pub data Concludes (run : Run) (o : Outcome) (commits : List Commit) (status : Status)
    (old new : Streams) (before after : DiskState) : Type 0 where
  failed : (why : Failure) → o.failure ≡ Some why → after ≡ before
      → SaysFailure why status old.out new.out → new.binlog.told ≡ old.binlog.told
      → Concludes run o commits status old new before after
  completed : (cloned : Cloned) → o.failure ≡ None → o.cloned ≡ Some cloned
      → (due : Status) (text : Text)
      → IsDue (SaysComplete run cloned commits) due before after text
      → Writes due status old new text (binlog_text commits) → Visits before after
      → Concludes run o commits status old new before after
  silent : o.failure ≡ None → status ≡ Memory → new.out.told ≡ old.out.told
      → new.binlog.told ≡ old.binlog.told → Visits before after
      → Concludes run o commits status old new before after

-- THE ROWS THAT THE FIRST COMMITS of a donor leave, so many, with the tables dropped among them
pub record AreOfFirst (d : plain.Donor) (position : ℕ) (list : List Row) : Type 0 where
  pub drops : ℕ
  pub is : list ≡ rows_in (fold (history_of (take position d.binlog) (take drops d.drops)))

-- WHATEVER IS SHOWN of the clone's disk, once it is recovered, are the rows of the first commits of
-- the donor, as many as the clone says.
abbrev pub ShowsFirst : Cloned → Donor → Option DiskImage → Type 0
ShowsFirst c d told = (m n : DiskImage) (list : List Row) → told ≡ Some m
    → ShowsRecovered m n list → AreOfFirst d.engine.donor c.position list

-- ---- what it does

-- Why nothing is begun over two disks, by the status that is for it, and the text that says so.
abbrev pub Prevents : Status → Disks → Disks → Text → Type 0
Prevents DonorFault given back text =
    FailsDonor given back × (text ≡ codes "donor disk fault")
Prevents RecipientFault given back text =
    LooksAtBoth given back × Rose given.recipient.failures back.recipient.failures
    × (text ≡ recipient_fault)
Prevents NotEmpty given back text =
    LooksAtBoth given back × WereNotEmpty given × (text ≡ codes "not empty")
Prevents status given back text = ⊥

module _ {N L X R : Type 0} (net : Net N L X) (link : Link L X) (state : R → DiskState) where
  -- THE JOBS RAN: they began with this donor, this disk and this net, by their calls the three that
  -- they share came from the one to the other, and these are left of them. The donor's commits are
  -- those of the load's writers and nobody else's, each writer's the first of its stream, in their
  -- order, and all of it where nothing failed. Where the donor's disk and the ends of the
  -- connections show what they hold, a clone that is complete at position n holds the first n of
  -- these commits and nothing after them, each whole, and n is at least what was looked up before
  -- the first acknowledgement of the copy of pages; and the rows that are shown of its disk, once it
  -- is recovered, are those that these n commits leave.
  pub record RanJobs (load : Load) (o : Outcome) (d : Donor) (disk : DiskState) (given : N)
      (left : Donor) (disk_left : R) (net_left : N) : Type 0 where
    pub first : Shared N L R
    pub last : Shared N L R
    pub begun : Begin net link state SESSION VERSION load d disk given first
    pub ran : HaveRun net link state load o first last
    pub leaves : Leave net link state last left disk_left net_left
    pub commits : HasCommits load left.engine.donor
    pub all : o.failure ≡ None → HasAllCommits load left.engine.donor
    pub moment : TellsAll net link state last → IsSome d.engine.disk.told → (c : Cloned)
        → o.cloned ≡ Some c → IsMoment SESSION c left (state disk_left).told
        × ShowsFirst c left (state disk_left).told
    pub counted : AreCounted net link state o d left disk (state disk_left) given net_left

  -- A DONOR WAS OPENED over its disk, with the sizes of the options, and cloned under load to the
  -- recipient's disk, which was looked at; and these two disks come back, the recipient's once the
  -- run is concluded. Where not all jobs were started, the cause is a disk, memory, or a thread;
  -- one of a thread is in the crew's count.
  pub record ClonesUnderLoad (run : Run) (status : Status) (old new : Streams) (given : Disks)
      (ends : Ends) (means left : Means N) : Type 0 where
    pub empty : AreEmpty given
    pub opened : Donor
    pub new_donor : IsNewDonor (config_of run) opened
    pub donor : Visits given.donor opened.engine.disk
    pub looked : DiskState
    pub looks : Looks given.recipient looked
    pub outcome : Outcome
    pub donor_left : Donor
    pub disk_left : R
    pub ran : outcome.whole ≡ true
        → RanJobs (load_of run) outcome opened looked means.net donor_left disk_left left.net
    pub unstarted : outcome.whole ≡ false
        → IsUnstarted outcome.failure
        ⊎ Unbegun outcome.failure opened donor_left looked (state disk_left)
    pub crew : outcome.failure ≡ Some failure.Thread → Rose means.crew left.crew
    pub concludes : Concludes run outcome donor_left.engine.donor.binlog status old new
        (state disk_left) ends.disks.recipient
    pub donor_back : ends.disks.donor ≡ donor_left.engine.disk
    pub drops : ends.drops ≡ []
    pub stop : ends.stop ≡ None

  -- A RUN: nothing was begun, and why is said, alone, or as far as memory and the sink allowed; or
  -- memory ran out before anything was said or begun; or a donor was cloned under load.
  pub data LoadOutcome (run : Run) (status : Status) (old new : Streams) (given : Disks)
      (ends : Ends) (means left : Means N) : Type 0 where
    prevented : (due : Status) (text : Text) → Prevents due given ends.disks text
        → Says due status old.out new.out (ended text) → IsAlone old new ends → left ≡ means
        → LoadOutcome run status old new given ends means left
    silent : status ≡ Memory → new.out.told ≡ old.out.told → OpensAtMost given ends.disks
        → IsAlone old new ends → left ≡ means
        → LoadOutcome run status old new given ends means left
    cloned : ClonesUnderLoad run status old new given ends means left
        → LoadOutcome run status old new given ends means left
