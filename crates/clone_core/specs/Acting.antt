-- WHAT A LINE DOES that asks something of a connection or of the session, what it changes of the
-- clone, and its answer.
use Rattle.std.specs.Prelude.{ℕ, ◌≡◌, ◌==◌, ◌&&◌, ◌++◌, ◌∷◌, [], not, Bool, true, false, List, None, Some, Ok, codes, if◌then◌else◌}
use Rattle.std.specs.Option.{option_map_or}
use Rattle.std.specs.declared.option.Option.{Option}
use Rattle.clone_outside.specs.DiskCalls.{Alters, DiskState}
use Rattle.clone_model.specs.Texts.{ended}
use Rattle.clone_script.specs.declared.lines.Line.{Line}
use Rattle.clone_script.specs.declared.lines.Line.TheVariants as lines
use Rattle.clone_chunk.specs.CauseTexts.{cause_text}
use Rattle.clone_chunk.specs.declared.cause.CloneCause.TheVariants.{NoSuchSession}
use Rattle.clone_calls.specs.declared.answer.DonorAnswer.TheVariants as given
use Rattle.clone_calls.specs.declared.call.DonorCall.TheVariants as call
use Rattle.clone_plain.specs.Answers.{Text}
use Rattle.clone_progress.specs.Texts.{progress_text}
use Rattle.clone_progress.specs.declared.progress.CloneStatus.{CloneStatus}
use Rattle.clone_progress.specs.declared.progress.CloneStatus.TheVariants as status
use Rattle.clone_progress.specs.declared.progress.Copied.TheVariants as copied
use Rattle.clone_progress.specs.declared.progress.Progress.{Progress}
use Rattle.clone_session.specs.Cloning.{Session}
use Rattle.clone_session.specs.declared.info.Stop as session
use Rattle.clone_tasks.specs.declared.end.CloneEnd as tasks
use Rattle.clone_tasks.specs.declared.end.CloneEnd.TheVariants as ends
use Rattle.clone_recipient.specs.Receptions.{Reception}
use Rattle.clone_recipient.specs.Showing.{progress_of}
use Rattle.clone_fetch.specs.declared.answer.TaskAnswer.{TaskAnswer}
use Rattle.clone_fetch.specs.declared.answer.TaskAnswer.TheVariants as task
use Rattle.clone_network.specs.Connections.{Connection, StepsEnd, cut_at, given_up, is_open, opened}
use Rattle.clone_network.specs.Networks.{Network, StepsDonor, StepsTask, fed, is_connected, on_connected}
use Rattle.clone_network.specs.declared.donor_step.DonorStep.{DonorStep}
use Rattle.clone_answers.specs.StepTexts.{step_text, task_text}
use Rattle.clone_engine.specs.Acts.{CloneActs}
use Rattle.clone_engine.specs.Donor as staged
use Rattle.clone_sides.specs.Moment.{own_stop}
use Rattle.clone_told.specs.Told.{gives}
use Rattle.clone_joined.specs.Runs.{stop_by}
use Rattle.clone_joined.specs.Strangers.{acts_in}
use Rattle.clone_events.specs.World.{Stop, End, complete, broken, spent, garbled, refused}
use Rattle.clone_events.specs.Events.{Change, stops, acknowledges, disturbs, crowds, ends, idle}
use Rattle.clone_core.specs.declared.world.Copying.{Copying}
use Rattle.clone_core.specs.declared.world.Course.{Course}
use Rattle.clone_core.specs.declared.world.Course.TheVariants as course
use Rattle.clone_core.specs.declared.world.TheConstants.{SESSION}
use Rattle.clone_core.specs.System.{System, has_ended}

-- ---- what a step changes of a clone

abbrev pub stop_of : session.Stop → Stop
stop_of s = record { position = s.position; drops = s.drops }

-- the session comes to its first stop
abbrev pub stop_changes : Option session.Stop → Option session.Stop → List Change
stop_changes None (Some at) = stops (stop_of at) ∷ []
stop_changes before now = []

-- what a call of the donor changes, after which it is this one
abbrev pub donor_changes : System → staged.Donor → List Change
donor_changes s d = stop_changes s.stop (own_stop SESSION d.cloning.stop)

-- the first stop is kept
abbrev pub with_donor : staged.Donor → System → System
with_donor d s = record s { donor = d; stop = stop_by SESSION s.stop d }

-- the copy of pages is acknowledged for the first time
abbrev pub floor_changes : Option ℕ → Option ℕ → List Change
floor_changes None (Some floor) = acknowledges ∷ []
floor_changes before after = []

-- how the recipient's clone ended
abbrev pub end_of : tasks.CloneEnd → End
end_of (ends.Complete lsn position) = complete position
end_of (ends.Spent losses) = spent losses
end_of (ends.Garbled kept) = garbled kept
end_of (ends.Refused cause) = refused (cause_text cause)
end_of ends.DiskFault = broken

abbrev pub end_changes : TaskAnswer → List Change
end_changes (task.Ended how) = ends (end_of how) ∷ []
end_changes other = []

-- a stranger's session stands
abbrev pub crowding : Bool → List Change
crowding true = crowds ∷ []
crowding false = []

-- somebody but the tasks has a hand in the clone
abbrev pub disturbing : Bool → List Change
disturbing true = disturbs ∷ []
disturbing false = []

-- ---- steps over the connections of the tasks

abbrev pub with_copying : Reception → Network → System → System
with_copying r n s =
    record s { course = course.Begun (record { reception = r; network = n }) }

-- A STEP OF A TASK. The floor of its acknowledgement is what was looked up last.
pub record ActsTask (number : ℕ) (c : Copying) (s t : System) (changes : List Change)
    (answer : Text) : Type 0 where
  pub reception : Reception
  pub network : Network
  pub recipient : DiskState
  pub says : TaskAnswer
  pub steps : StepsTask number s.looked c.reception reception s.recipient recipient c.network
      network says
  pub works : Alters (says ≡ task.Ended ends.DiskFault) s.recipient recipient
  pub is : t ≡ with_copying reception network (record s { recipient = recipient })
  pub changed : changes
      ≡ floor_changes c.reception.table.floor reception.table.floor ++ end_changes says
  pub answers : answer ≡ task_text says

-- A STEP OF THE DONOR on a connection
pub record ActsDonor (connection : ℕ) (c : Copying) (s t : System) (changes : List Change)
    (answer : Text) : Type 0 where
  pub donor : staged.Donor
  pub network : Network
  pub says : DonorStep
  pub steps : StepsDonor gives s.donor donor connection c.network network says
  pub is : t ≡ with_copying c.reception network (with_donor donor s)
  pub changed : changes ≡ donor_changes s donor
  pub answers : answer ≡ step_text says

-- A connection is cut, and of what isn't read so many bytes are kept each way.
pub record ActsCut (connection to_donor to_task : ℕ) (c : Copying) (s t : System)
    (changes : List Change) (answer : Text) : Type 0 where
  pub is : t ≡ with_copying c.reception
      (on_connected connection (cut_at to_donor to_task) c.network) s
  pub none : changes ≡ []
  pub answers : answer
      ≡ (if is_connected c.network.connections connection then codes "cut" else idle)

-- BYTES COME to a task that the donor didn't send.
pub record ActsFeed (connection : ℕ) (bytes : List ℕ) (c : Copying) (s t : System)
    (changes : List Change) (answer : Text) : Type 0 where
  pub is : t ≡ with_copying c.reception (on_connected connection (fed bytes) c.network) s
  pub changed : changes ≡ disturbing (is_connected c.network.connections connection)
  pub answers : answer
      ≡ (if is_connected c.network.connections connection then codes "noted" else idle)

-- where no clone is under way, there is no task and no connection
pub record Rests (s t : System) (changes : List Change) (answer : Text) : Type 0 where
  pub same : t ≡ s
  pub none : changes ≡ []
  pub is : answer ≡ idle

abbrev pub OnCopying : (Copying → System → System → List Change → Text → Type 0) → Course → System
    → System → List Change → Text → Type 0
OnCopying Does (course.Begun c) s t changes answer = Does c s t changes answer
OnCopying Does other s t changes answer = Rests s t changes answer

-- ---- strangers

-- a session of another number stands at the donor
abbrev pub is_crowded : staged.Donor → Bool
is_crowded d = option_map_or (λ (s : Session). not (s.number == SESSION)) d.cloning.session false

-- the donor is alone with a clone as long as none does before the clone has ended
abbrev pub alone_after : staged.Donor → System → Bool
alone_after d s = if is_crowded d && not (has_ended s.course) then false else s.alone

abbrev pub with_stranger : staged.Donor → System → System
with_stranger d s = record (with_donor d s) { alone = alone_after d s }

-- what a step of a stranger's connection changes
abbrev pub stranger_changes : Connection → DonorStep → System → staged.Donor → List Change
stranger_changes at says s d = disturbing (acts_in SESSION s.donor d at says)
    ++ (crowding (is_crowded d) ++ donor_changes s d)

-- A STRANGER'S CONNECTION is served until its loop ends, as its last step says.
pub data ServesStranger : Connection → System → System → List Change → DonorStep → Type 0 where
  last : (at after : Connection) → (s t : System) → (donor : staged.Donor) → (says : DonorStep)
      → StepsEnd gives s.donor donor at after says → is_open after ≡ false
      → t ≡ with_stranger donor s → ServesStranger at s t (stranger_changes at says s donor) says
  goes_on : (at after : Connection) → (s t : System) → (donor : staged.Donor)
      → (says how : DonorStep) → (rest : List Change) → StepsEnd gives s.donor donor at after says
      → is_open after ≡ true → ServesStranger after (with_stranger donor s) t rest how
      → ServesStranger at s t (stranger_changes at says s donor ++ rest) how

-- a stranger sends these bytes, and reads no answer
pub record ActsRaw (bytes : List ℕ) (s t : System) (changes : List Change) (answer : Text)
    : Type 0 where
  pub how : DonorStep
  pub serves : ServesStranger (given_up (opened bytes)) s t changes how
  pub answers : answer ≡ codes "end " ++ step_text how

-- THE DONOR GIVES ITS SESSION UP, whatever its number.
abbrev pub Abandons : Option Session → System → System → List Change → Text → Type 0
Abandons None s t changes answer =
    (t ≡ s) × (changes ≡ []) × (answer ≡ cause_text NoSuchSession)
Abandons (Some standing) s t changes answer =
    (donor : staged.Donor)
    × CloneActs (call.Abandon standing.number) (given.Abandon (Ok tt)) s.donor donor
    × (t ≡ with_donor donor s)
    × (changes ≡ disturbing (standing.number == SESSION) ++ donor_changes s donor)
    × (answer ≡ codes "abandoned")

-- ---- the status

-- a clone of which nothing is copied
abbrev pub nothing_copied : CloneStatus → Progress
nothing_copied status =
    record { status = status; copied = copied.Nothing; synced = false; recovered = false }

abbrev pub course_progress : Course → Progress
course_progress course.Absent = nothing_copied status.NotStarted
course_progress course.Unbegun = nothing_copied status.Failed
course_progress (course.Begun c) = progress_of c.reception

-- it is the clone's progress, without the last line feed
pub record TellsStatus (s t : System) (changes : List Change) (answer : Text) : Type 0 where
  pub same : t ≡ s
  pub none : changes ≡ []
  pub is : ended answer ≡ progress_text (course_progress s.course)

-- ---- ALL OF THEM, by the line
abbrev pub ActsStep : Line → System → System → List Change → Text → Type 0
ActsStep (lines.Task number) s t changes answer =
    OnCopying (ActsTask number) s.course s t changes answer
ActsStep (lines.Serve connection) s t changes answer =
    OnCopying (ActsDonor connection) s.course s t changes answer
ActsStep (lines.Cut connection to_donor to_task) s t changes answer =
    OnCopying (ActsCut connection to_donor to_task) s.course s t changes answer
ActsStep (lines.Feed connection bytes) s t changes answer =
    OnCopying (ActsFeed connection bytes) s.course s t changes answer
ActsStep (lines.Raw bytes) s t changes answer = ActsRaw bytes s t changes answer
ActsStep lines.Abandon s t changes answer =
    Abandons s.donor.cloning.session s t changes answer
ActsStep lines.Status s t changes answer = TellsStatus s t changes answer
ActsStep line s t changes answer = ⊥
