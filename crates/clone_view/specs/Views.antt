-- THE ROUNDS OF TWO ENDS: a recipient's table of tasks, a donor's session, and the connections of
-- the present incarnation between them, seen as a state of the rounds.
use Rattle.std.specs.Prelude.{ℕ, ◌≡◌, ◌<◌, Bool, true, false, List, [], ◌∷◌, None, Some, length}
use Rattle.std.specs.Prelude.{if◌then◌else◌}
use Rattle.std.specs.declared.option.Option.{Option}
use Rattle.clone_snapshot.specs.StageLists.{StageList, Nothing}
use Rattle.clone_session.specs.Cloning.{Session}
use Rattle.clone_serve.specs.declared.doing.Doing.{Doing}
use Rattle.clone_serve.specs.declared.doing.Doing.TheVariants.{New, Over}
use Rattle.clone_tasks.specs.Rules.{sending_rule}
use Rattle.clone_tasks.specs.Tables.{Table, incarnation_of, is_running}
use Rattle.clone_tasks.specs.declared.rule.Rule.TheVariants.{Receive}
use Rattle.clone_wire.specs.declared.frame.Frame.{Frame}
use Rattle.clone_rounds.specs.World.{Seat, fresh, World}
use Rattle.clone_rounds.specs.Steps.{sends, TaskStep, DonorStep}
use Rattle.clone_view.specs.Tables.{IsTable}
use Rattle.clone_view.specs.Frames.{AreCommands, AreAnswers}
use Rattle.clone_view.specs.Donors.{core_of, IsDonor}

-- A CONNECTION: whether it is cut, the whole frames that were sent and aren't read, and what the
-- donor's side is doing
pub record Line : Type 0 where
  pub cut : Bool
  pub commands : List Frame
  pub answers : List Frame
  pub doing : Doing

-- the seat of a task shows its connection
pub record IsLine (counts : ℕ → List ℕ) (list : StageList) (l : Line) (s : Seat) : Type 0 where
  pub connected : s.connected ≡ true
  pub cut : s.cut ≡ l.cut
  pub commands : AreCommands l.commands s.commands
  pub answers : AreAnswers counts l.answers s.answers
  pub core : core_of list l.doing ≡ Some s.core

-- a task without a connection has a fresh seat
abbrev pub IsSeat : (ℕ → List ℕ) → StageList → Option Line → Seat → Type 0
IsSeat counts list None s = s ≡ fresh
IsSeat counts list (Some l) s = IsLine counts list l s

-- what the donor copies, or nothing without a session
abbrev pub list_in : Option Session → StageList
list_in None = Nothing
list_in (Some s) = s.snap.list

-- THE VIEW, by how many blocks the chunks of each stage have
pub record IsView (counts : ℕ → List ℕ) (t : Table) (session : Option Session)
    (lines : ℕ → Option Line) (w : World) : Type 0 where
  pub table : IsTable t w
  pub donor : IsDonor (incarnation_of t) session w
  pub seats : (k : ℕ) → IsSeat counts (list_in session) (lines k) (w.seats k)

-- A FRAME LIES UNREAD for a task that awaits an answer, with these after it.
pub record HasFront (counts : ℕ → List ℕ) (t : Table) (session : Option Session)
    (lines : ℕ → Option Line) (w : World) (k : ℕ) (l : Line) (got : Frame) (left : List Frame)
    : Type 0 where
  pub view : IsView counts t session lines w
  pub running : is_running t ≡ true
  pub within : k < length t.standings
  pub receives : sending_rule t k ≡ Receive
  pub line : lines k ≡ Some l
  pub unread : l.answers ≡ got ∷ left

-- ---- what a step makes of a connection

-- the task sends its first frame, or one more; a frame that is sent on a cut connection is lost
abbrev pub line_sent : Option Line → Frame → Line
line_sent None frame = record { cut = false; commands = frame ∷ []; answers = []; doing = New }
line_sent (Some l) frame = record l { commands = sends l.cut l.commands frame }

-- it has read a frame, and these are left
abbrev pub line_read : Line → List Frame → Line
line_read l left = record l { answers = left }

-- A TASK'S STEP leads to these ends.
abbrev pub Follows : (ℕ → List ℕ) → Table → Option Session → (ℕ → Option Line) → World → Type 0
Follows counts t session lines w = (u : World) × TaskStep w u × IsView counts t session lines u

-- ---- what a donor's step makes of a connection

-- THE DONOR'S SIDE of a task's connection does this, and these commands lie unread.
pub record IsAt (counts : ℕ → List ℕ) (t : Table) (s : Session) (lines : ℕ → Option Line)
    (w : World) (k : ℕ) (l : Line) (now : Doing) (unread : List Frame) : Type 0 where
  pub view : IsView counts t (Some s) lines w
  pub task : k < t.count
  pub line : lines k ≡ Some l
  pub doing : l.doing ≡ now
  pub commands : l.commands ≡ unread

-- the command was carried out, and answered by a frame or by none yet
abbrev pub line_answered : Line → Doing → Frame → Line
line_answered l next frame = record l {
  commands = [];
  answers = sends l.cut l.answers frame;
  doing = next;
}

abbrev pub line_started : Line → Doing → Line
line_started l next = record l { commands = []; doing = next }

-- a frame was sent within an EXECUTE: on a cut connection the loop ends
abbrev pub line_served : Line → Doing → Frame → Line
line_served l next frame = record l {
  answers = sends l.cut l.answers frame;
  doing = if l.cut then Over else next;
}

-- a disk fault, after which the donor closes the connection; or a loss was found
abbrev pub line_closed : Line → Line
line_closed l = record l { cut = true; commands = []; doing = Over }

abbrev pub line_over : Line → Line
line_over l = record l { doing = Over }

-- the loop has come to this, and nothing was sent
abbrev pub line_doing : Line → Doing → Line
line_doing l next = record l { doing = next }

-- A DONOR'S STEP leads to these ends.
abbrev pub Leads : (ℕ → List ℕ) → Table → Session → (ℕ → Option Line) → World → Type 0
Leads counts t s lines w = (u : World) × DonorStep w u × IsView counts t (Some s) lines u
